use Rattle.std.proofs.Common.{◌∙◌, ap, sym, subst, ◌+◌, ◌/◌, arith}
use Rattle.hg_bits.specs.Words.{HoldsBits, bits_of}
use Rattle.hg_bits.proofs.RowLaws.{bits_none, holds_none}
use Rattle.hg_bits.proofs.row.BitRow.new.Goals as goal

pub invariant_of-result : goal.invariant_of-result
invariant_of-result c = subst (λ ws. HoldsBits ws c.args.len) (sym (c.in_ok-words.ensures.items_if_clones_equal (λ y h. h))) (holds_none c.args.len (omega arith))

pub returns : goal.returns
returns c = ap (λ ws. bits_of ws c.args.len) (c.in_ok-words.ensures.items_if_clones_equal (λ y h. h)) ∙ bits_none (c.args.len / 64 + 1) c.args.len
