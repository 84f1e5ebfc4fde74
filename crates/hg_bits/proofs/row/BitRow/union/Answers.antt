use Rattle.std.proofs.Common.{ℕ, ◌≡◌, ◌≤◌, ◌∙◌, ap, ap₂, sym, subst, length, Bool, List, ◌||◌, arith}
use Rattle.hg_bits.specs.Words.{HoldsBits, bits_of, has_bit}
use Rattle.hg_bits.specs.Rows.{union_of}
use Rattle.hg_bits.proofs.RowLaws.{length-bits, bits_union, holds_union, refilled, words_fewer}
use Rattle.hg_bits.proofs.row.BitRow.union.Goals as goal

pub join-requires : goal.join-requires
join-requires c =
    let len = ap length (sym c.self.view_is) ∙ length-bits c.self.inside.words.items c.self.inside.len in
    let other_len = ap length (sym c.other.view_is) ∙ length-bits c.other.inside.words.items c.other.inside.len in
    let shorter : c.other.inside.len ≤ c.self.inside.len = omega (arith, len, other_len) in
    omega (arith, words_fewer c.self.inside.words.items c.other.inside.words.items c.self.inside.len c.other.inside.len c.self.invariant c.other.invariant shorter, ap length c.deref_mut.ensures.value, ap length c.deref.ensures.value)

pub invariant_of-self : goal.invariant_of-self
invariant_of-self c =
    let old = c.self.inside.words.items in
    let others = c.other.inside.words.items in
    let new = c.join.new.words in
    let len = ap length (sym c.self.view_is) ∙ length-bits old c.self.inside.len in
    let other_len = ap length (sym c.other.view_is) ∙ length-bits others c.other.inside.len in
    let joined : (k : ℕ) → has_bit new k ≡ (has_bit old k || has_bit others k) =
    λ k. c.join.ensures.bits k ∙ ap₂ (λ (ws vs : List ℕ). has_bit ws k || has_bit vs k) c.deref_mut.ensures.value c.deref.ensures.value in
    subst (λ ws. HoldsBits ws c.self.inside.len) (sym (refilled c.self.inside.words.len new old (c.join.ensures.len ∙ c.deref_mut.ensures.len)))
    (holds_union old others new c.self.inside.len c.other.inside.len c.self.invariant c.other.invariant (omega (arith, len, other_len)) (c.join.ensures.len ∙ ap length c.deref_mut.ensures.value) joined)

pub returns : goal.returns
returns c =
    let old = c.self.inside.words.items in
    let others = c.other.inside.words.items in
    let new = c.join.new.words in
    let joined : (k : ℕ) → has_bit new k ≡ (has_bit old k || has_bit others k) =
    λ k. c.join.ensures.bits k ∙ ap₂ (λ (ws vs : List ℕ). has_bit ws k || has_bit vs k) c.deref_mut.ensures.value c.deref.ensures.value in
    ap (λ ws. bits_of ws c.self.inside.len) (refilled c.self.inside.words.len new old (c.join.ensures.len ∙ c.deref_mut.ensures.len))
    ∙ (bits_union old others new c.self.inside.len c.other.inside.len c.other.invariant joined
    ∙ ap₂ (λ (row other : List Bool). union_of row other) c.self.view_is c.other.view_is)
