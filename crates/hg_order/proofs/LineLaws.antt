-- The line of a row's self-ancestors, and the first of it that has a row as ancestor
use Rattle.std.proofs.Common.{◌≡◌, ℕ, zero, suc, ◌<◌, ◌≤◌, Bool, true, false, not, ◌&&◌, List, [], ◌∷◌, unwrap_or, sym, refl, ap, ◌∙◌, subst, inl, inr, arith}
use Rattle.std.specs.List.{list_all}
use Rattle.std.proofs.lemmas.Bool.{cases_Bool, and_parts, and_from, not-true, both_ways, false_from_ne_true}
use Rattle.hg_model.specs.Places.{has_place, IsEarlier}
use Rattle.hg_model.specs.Stakes.{Stakes}
use Rattle.hg_model.specs.Links.{Link, parents, self_parent, creator}
use Rattle.hg_model.specs.Ancestry.{is_ancestor, is_self_ancestor}
use Rattle.hg_model.specs.Graph.{IsShaped}
use Rattle.hg_model.proofs.SearchLaws.{least_below_none, least_number_first}
use Rattle.hg_model.proofs.ReachLaws.{has_place_first}
use Rattle.hg_model.proofs.AncestryLaws.{self_parent_earlier, is_ancestor-trans, is_self_ancestor_self, is_self_ancestor_by, is_self_ancestor_cases, is_self_ancestor-le, is_self_ancestor-trans}
use Rattle.hg_model.proofs.SightLaws.{is_ancestor-from_self}
use Rattle.hg_model.proofs.ForkLaws.{self_parent_cases, self_parent_only, one_line}
use Rattle.hg_order.specs.Famous.{first_holder}

-- x is no ancestor of the self-parent of z
abbrev pub is_new_to_line : List Link → ℕ → ℕ → Bool
is_new_to_line L x z = list_all (λ p. not (is_ancestor L p x)) (self_parent L z)

-- z stands on the line of w, and is the first there that has x as ancestor
pub record IsFirstHolder (L : List Link) (x w z : ℕ) : Type 0 where
  pub on_line : is_self_ancestor L w z ≡ true
  pub holds : is_ancestor L z x ≡ true
  pub first : is_new_to_line L x z ≡ true

module _ (L : List Link) (e : IsEarlier (parents L)) where
  -- of two rows on a line the later has the earlier on its own line
  above_on_line : (w z y : ℕ) → is_self_ancestor L w z ≡ true → is_self_ancestor L w y ≡ true → y < z → is_self_ancestor L z y ≡ true
  above_on_line w z y on_z on_y before = elim (one_line L e w z y on_z on_y) [
    | inl on ↦ on
    | inr over ↦ (let le : z ≤ y = is_self_ancestor-le L e y z over in absurd (omega arith))
  ]

  -- what is new to a line has no earlier line row there
  none_before : (x w z : ℕ) → IsFirstHolder L x w z → (y : ℕ) → y < z → (is_self_ancestor L w y && is_ancestor L y x) ≡ true → ⊥
  none_before x w z line_row y before passes =
      let parts = and_parts (is_self_ancestor L w y) (is_ancestor L y x) passes in
      elim (is_self_ancestor_cases L e z y (above_on_line w z y line_row.on_line parts.0 before)) [
        | inl same ↦ absurd (omega arith)
        | inr by ↦
            (let up : is_ancestor L by.0 x ≡ true = is_ancestor-trans L e by.0 y x (is_ancestor-from_self L e by.0 y by.2) parts.1 in
            let only : self_parent L z ≡ by.0 ∷ [] = self_parent_only L z by.0 by.1 in
            let here = and_parts (not (is_ancestor L by.0 x)) true (subst (λ (ps : List ℕ). list_all (λ p. not (is_ancestor L p x)) ps ≡ true) only line_row.first) in
            both_ways (is_ancestor L by.0 x) (not-true (is_ancestor L by.0 x) here.0) up)
      ]

  pub first_holder_is : (x w z : ℕ) → IsFirstHolder L x w z → first_holder L x w ≡ z
  unfolding first_holder
  first_holder_is x w z line_row =
      let test : ℕ → Bool = λ y. is_self_ancestor L w y && is_ancestor L y x in
      let low : z ≤ w = is_self_ancestor-le L e w z line_row.on_line in
      let none = least_below_none (λ y. y) z test (λ y before. false_from_ne_true (test y) (none_before x w z line_row y before)) in
      ap (λ o. unwrap_or o w)
      (least_number_first (suc w) z test (omega arith) none (and_from (is_self_ancestor L w z) (is_ancestor L z x) line_row.on_line line_row.holds))

  line_row_to : (k x w : ℕ) → w < k → is_ancestor L w x ≡ true → (z : ℕ) × IsFirstHolder L x w z
  line_row_to zero x w h up = absurd (omega arith)
  line_row_to (suc k) x w h up = elim (self_parent_cases L w) [
    | inl none ↦ (w, record { on_line = is_self_ancestor_self L e w; holds = up; first = rw none refl })
    | inr one ↦ elim (cases_Bool (is_ancestor L one.0 x)) [
      | inl held ↦
          (let has : has_place (self_parent L w) one.0 ≡ true = rw one.1 (has_place_first one.0 []) in
          let before : one.0 < w = (self_parent_earlier L e).earlier w one.0 has in
          let below = line_row_to k x one.0 (omega arith) held in
          (below.0, record { on_line = is_self_ancestor_by L e w one.0 below.0 has below.1.on_line; holds = below.1.holds; first = below.1.first }))
      | inr not_held ↦ (w, record { on_line = is_self_ancestor_self L e w; holds = up; first = rw (one.1, not_held) refl })
    ]
  ]

  -- where w has x as ancestor, its line has a first holder
  pub first_holder_found : (x w : ℕ) → is_ancestor L w x ≡ true → IsFirstHolder L x w (first_holder L x w)
  first_holder_found x w up =
      let found = line_row_to (suc w) x w (omega arith) up in
      subst (λ z. IsFirstHolder L x w z) (sym (first_holder_is x w found.0 found.1)) found.1

  pub first_holder-le : (x w : ℕ) → is_ancestor L w x ≡ true → first_holder L x w ≤ w
  first_holder-le x w up = is_self_ancestor-le L e w (first_holder L x w) (first_holder_found x w up).on_line

-- one step down a line

pub self_parent_before : (L : List Link) → IsEarlier (parents L) → (z p : ℕ) → p ∷ [] ≡ self_parent L z → p < z
self_parent_before L e z p is = (self_parent_earlier L e).earlier z p (rw (← is) (has_place_first p []))

pub line_down : (L : List Link) → IsEarlier (parents L) → (w z p : ℕ) → is_self_ancestor L w z ≡ true → p ∷ [] ≡ self_parent L z → is_self_ancestor L w p ≡ true
line_down L e w z p on is = is_self_ancestor-trans L e w z p on (is_self_ancestor_by L e z p p (rw (← is) (has_place_first p [])) (is_self_ancestor_self L e p))

pub new_by_parent : (L : List Link) (x z p : ℕ) → p ∷ [] ≡ self_parent L z → false ≡ is_ancestor L p x → is_new_to_line L x z ≡ true
new_by_parent L x z p is not_held = rw (← is, ← not_held) refl

pub new_without_parent : (L : List Link) (x z : ℕ) → [] ≡ self_parent L z → is_new_to_line L x z ≡ true
new_without_parent L x z none = rw (← none) refl

module _ (n : Stakes) (L : List Link) (s : IsShaped n L) where
  creator_to : (k w z : ℕ) → w < k → is_self_ancestor L w z ≡ true → creator L z ≡ creator L w
  creator_to zero w z h on = absurd (omega arith)
  creator_to (suc k) w z h on = elim (is_self_ancestor_cases L s.earlier w z on) [
    | inl same ↦ ap (creator L) (sym same)
    | inr by ↦
        (let before : by.0 < w = (self_parent_earlier L s.earlier).earlier w by.0 by.1 in
        creator_to k by.0 z (omega arith) by.2 ∙ s.self_by_same w by.0 by.1)
  ]

  -- a line is by one creator
  pub creator_of_line : (w z : ℕ) → is_self_ancestor L w z ≡ true → creator L z ≡ creator L w
  creator_of_line w z on = creator_to (suc w) w z (omega arith) on
