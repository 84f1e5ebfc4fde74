use Rattle.std.proofs.Common.{◌<◌, ◌∙◌, ap, sym, length, arith}
use Rattle.hg_bits.specs.Words.{has_bit}
use Rattle.hg_bits.specs.Rows.{is_in}
use Rattle.hg_bits.proofs.RowLaws.{length-bits, is_in-bits, word_inside}
use Rattle.hg_bits.proofs.row.BitRow.has.Goals as goal

pub has_bit-requires : goal.has_bit-requires
has_bit-requires c =
    let len = ap length (sym c.self.view_is) ∙ length-bits c.self.inside.words.items c.self.inside.len in
    let inside : c.args.i < c.self.inside.len = omega (arith, len) in
    omega (arith, word_inside c.self.inside.words.items c.self.inside.len c.args.i c.self.invariant inside, ap length c.deref.ensures.value)

pub returns : goal.returns
returns c =
    let len = ap length (sym c.self.view_is) ∙ length-bits c.self.inside.words.items c.self.inside.len in
    let inside : c.args.i < c.self.inside.len = omega (arith, len) in
    c.has_bit.ensures
    ∙ (ap (λ ws. has_bit ws c.args.i) c.deref.ensures.value
    ∙ (sym (is_in-bits c.self.inside.words.items c.self.inside.len c.args.i inside) ∙ ap (λ row. is_in row c.args.i) c.self.view_is))
