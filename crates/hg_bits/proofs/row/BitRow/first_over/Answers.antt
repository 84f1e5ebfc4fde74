use Rattle.std.proofs.Common.{◌*◌, ap, subst, length, arith}
use Rattle.hg_bits.specs.Words.{is_bit_over, bits_of, Finds}
use Rattle.hg_bits.specs.Rows.{is_over}
use Rattle.hg_bits.proofs.RowLaws.{finds_over}
use Rattle.hg_bits.proofs.row.BitRow.first_over.Goals as goal

pub first_over-requires : goal.first_over-requires
first_over-requires c = omega (arith, c.self.invariant.long, ap length c.deref.ensures.value)

pub returns : goal.returns
returns c =
    let words = c.self.inside.words.items in
    let others = c.other.inside.words.items in
    let found : Finds (is_bit_over words others) c.args.from (64 * length words) c.first_over.result =
    subst (λ ws. Finds (is_bit_over ws others) c.args.from (64 * length ws) c.first_over.result) c.deref.ensures.value
    (subst (λ vs. Finds (is_bit_over c.deref.result.now vs) c.args.from (64 * length c.deref.result.now) c.first_over.result) c.deref-2.ensures.value c.first_over.ensures) in
    subst (λ row. Finds (is_over row c.args.other.now) c.args.from (length row) c.first_over.result) c.self.view_is
    (subst (λ other. Finds (is_over (bits_of words c.self.inside.len) other) c.args.from (length (bits_of words c.self.inside.len)) c.first_over.result) c.other.view_is
    (finds_over words others c.self.inside.len c.other.inside.len c.args.from c.self.invariant c.other.invariant c.first_over.result found))
