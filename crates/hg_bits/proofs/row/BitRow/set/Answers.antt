use Rattle.std.proofs.Common.{ℕ, ◌≡◌, ◌<◌, ◌∙◌, ap, sym, subst, length, eqb, ◌||◌, arith}
use Rattle.hg_bits.specs.Words.{HoldsBits, bits_of, has_bit}
use Rattle.hg_bits.specs.Rows.{with_place}
use Rattle.hg_bits.proofs.RowLaws.{length-bits, bits_with, holds_with, refilled, word_inside}
use Rattle.hg_bits.proofs.row.BitRow.set.Goals as goal

pub set_bit-requires : goal.set_bit-requires
set_bit-requires c =
    let len = ap length (sym c.self.view_is) ∙ length-bits c.self.inside.words.items c.self.inside.len in
    let inside : c.args.i < c.self.inside.len = omega (arith, len) in
    omega (arith, word_inside c.self.inside.words.items c.self.inside.len c.args.i c.self.invariant inside, ap length c.deref_mut.ensures.value)

pub invariant_of-self : goal.invariant_of-self
invariant_of-self c =
    let old = c.self.inside.words.items in
    let new = c.set_bit.new.words in
    let len = ap length (sym c.self.view_is) ∙ length-bits old c.self.inside.len in
    let made : (k : ℕ) → has_bit new k ≡ (eqb k c.args.i || has_bit old k) = λ k. c.set_bit.ensures.bits k ∙ ap (λ ws. eqb k c.args.i || has_bit ws k) c.deref_mut.ensures.value in
    subst (λ ws. HoldsBits ws c.self.inside.len) (sym (refilled c.self.inside.words.len new old (c.set_bit.ensures.len ∙ c.deref_mut.ensures.len)))
    (holds_with old new c.self.inside.len c.args.i c.self.invariant (c.set_bit.ensures.len ∙ ap length c.deref_mut.ensures.value) (omega (arith, len)) made)

pub returns : goal.returns
returns c =
    let old = c.self.inside.words.items in
    let new = c.set_bit.new.words in
    let made : (k : ℕ) → has_bit new k ≡ (eqb k c.args.i || has_bit old k) = λ k. c.set_bit.ensures.bits k ∙ ap (λ ws. eqb k c.args.i || has_bit ws k) c.deref_mut.ensures.value in
    ap (λ ws. bits_of ws c.self.inside.len) (refilled c.self.inside.words.len new old (c.set_bit.ensures.len ∙ c.deref_mut.ensures.len))
    ∙ (bits_with old new c.self.inside.len c.args.i made ∙ ap (λ row. with_place row c.args.i) c.self.view_is)
