-- Who is seen along branches, where forks are
use Rattle.std.proofs.Common.{◌≡◌, ℕ, zero, suc, ◌+◌, ◌-◌, ◌<◌, ◌≤◌, lt-ltb, ◌&&◌, eqb, nat_lt, nat_le, not, true, false, List, [], ◌∷◌, length, get_or, slice_index, sym, ap, ◌∙◌, subst, inl, inr, arith}
use Rattle.std.proofs.lemmas.Bool.{cases_lt, and_parts, and_from, ltb-true, false_from_ne_true, both_ways}
use Rattle.hg_model.specs.Places.{has_place, IsEarlier}
use Rattle.hg_model.specs.Stakes.{Stakes}
use Rattle.hg_model.specs.Links.{Link, parents, self_parent, creator}
use Rattle.hg_model.specs.Ancestry.{is_ancestor, is_self_ancestor}
use Rattle.hg_model.specs.Seeing.{sees, sees_through}
use Rattle.hg_model.specs.Graph.{IsShaped}
use Rattle.hg_model.proofs.PlacesLaws.{some_below_from, some_below_found}
use Rattle.hg_model.proofs.ReachLaws.{has_place_first, one_there, none_there}
use Rattle.hg_model.proofs.AncestryLaws.{is_ancestor-le, self_parent_earlier, is_ancestor-trans, is_self_ancestor_self, is_self_ancestor_by, is_self_ancestor_cases, is_self_ancestor-le, is_self_ancestor-trans}
use Rattle.hg_model.proofs.SightLaws.{is_ancestor-from_self, sees-is_ancestor}
use Rattle.hg_branches.specs.Branches.{Branching}
use Rattle.hg_branches.specs.Lines.{line_sees, sees_on, seen_on, own_sees, other_sees}
use Rattle.hg_branches.specs.Columns.{branching_of, count_in, HoldsBranches, HoldsCounts}
use Rattle.hg_branches.proofs.SeenLaws.{seen_by_branches}

module _ (L : List Link) (e : IsEarlier (parents L)) where
  pub line_yes : (z w y : ℕ) → is_self_ancestor L z w ≡ true → sees L w y ≡ true → line_sees L z y ≡ true
  line_yes z w y on seen =
      let le : w ≤ z = is_self_ancestor-le L e z w on in
      some_below_from (suc z) (λ w. is_self_ancestor L z w && sees L w y) w (omega arith) (and_from (is_self_ancestor L z w) (sees L w y) on seen)

  pub line_found : (z y : ℕ) → line_sees L z y ≡ true → (w : ℕ) × (is_self_ancestor L z w ≡ true) × (sees L w y ≡ true)
  line_found z y h =
      let w = some_below_found (suc z) (λ w. is_self_ancestor L z w && sees L w y) h in
      let parts = and_parts (is_self_ancestor L z w.0) (sees L w.0 y) w.2 in
      (w.0, parts.0, parts.1)

  -- what sees y on the line of z stands on that of `at`, which does not have y as ancestor
  pub line_no : (z at y : ℕ) → ((w : ℕ) → is_self_ancestor L z w ≡ true → sees L w y ≡ true → is_self_ancestor L at w ≡ true) → is_ancestor L at y ≡ false → line_sees L z y ≡ false
  line_no z at y below none = false_from_ne_true (line_sees L z y) (λ h.
      let w = line_found z y h in
      both_ways (is_ancestor L at y) none
      (is_ancestor-trans L e at w.0 y (is_ancestor-from_self L e at w.0 (below w.0 w.1 w.2)) (sees-is_ancestor L e w.0 y w.2)))

  -- or which does not see y, and is a first row
  pub line_end : (z at y : ℕ) → ((w : ℕ) → is_self_ancestor L z w ≡ true → sees L w y ≡ true → is_self_ancestor L at w ≡ true) → sees L at y ≡ false → [] ≡ self_parent L at → line_sees L z y ≡ false
  line_end z at y below none first = false_from_ne_true (line_sees L z y) (λ h.
      let w = line_found z y h in
      elim (is_self_ancestor_cases L e at w.0 (below w.0 w.1 w.2)) [
        | inl same ↦ both_ways (sees L at y) none (subst (λ k. sees L k y ≡ true) (sym same) w.2)
        | inr by ↦ none_there by.0 (subst (λ ps. has_place ps by.0 ≡ true) (sym first) by.1)
      ])

  pub line_next : (z at p y : ℕ) → ((w : ℕ) → is_self_ancestor L z w ≡ true → sees L w y ≡ true → is_self_ancestor L at w ≡ true) → sees L at y ≡ false → p ∷ [] ≡ self_parent L at →
      (w : ℕ) → is_self_ancestor L z w ≡ true → sees L w y ≡ true → is_self_ancestor L p w ≡ true
  line_next z at p y below none next w on seen = elim (is_self_ancestor_cases L e at w (below w on seen)) [
    | inl same ↦ absurd (both_ways (sees L at y) none (subst (λ k. sees L k y ≡ true) (sym same) seen))
    | inr by ↦ (let is_p : p ≡ by.0 = one_there p by.0 (subst (λ ps. has_place ps by.0 ≡ true) (sym next) by.1) in
        subst (λ k. is_self_ancestor L k w ≡ true) (sym is_p) by.2)
  ]

  pub line_on : (z at p : ℕ) → is_self_ancestor L z at ≡ true → p ∷ [] ≡ self_parent L at → is_self_ancestor L z p ≡ true
  line_on z at p on next =
      let has : has_place (self_parent L at) p ≡ true = subst (λ ps. has_place ps p ≡ true) next (has_place_first p []) in
      is_self_ancestor-trans L e z at p on (is_self_ancestor_by L e at p p has (is_self_ancestor_self L e p))

  pub line_lower : (at p : ℕ) → p ∷ [] ≡ self_parent L at → p < at
  line_lower at p next = (self_parent_earlier L e).earlier at p (subst (λ ps. has_place ps p ≡ true) next (has_place_first p []))

-- rows up to y do not see it
pub line_low : (n : Stakes) (L : List Link) (counts : List ℕ) (y b : ℕ) → IsShaped n L → slice_index counts b ≤ y → sees_on L counts y b ≡ false
line_low n L counts y b s le = false_from_ne_true (sees_on L counts y b) (λ h.
    let parts = and_parts (nat_lt 0 (slice_index counts b)) (line_sees L (slice_index counts b - 1) y) h in
    let some : 0 < slice_index counts b = ltb-true 0 (slice_index counts b) parts.0 in
    let w = line_found L s.earlier (slice_index counts b - 1) y parts.1 in
    let one = is_self_ancestor-le L s.earlier (slice_index counts b - 1) w.0 w.1 in
    let two = is_ancestor-le L s.earlier w.0 y (sees-is_ancestor L s.earlier w.0 y w.2) in
    absurd (omega arith))

-- nor do the rows of a branch that is not counted
pub none_on : (L : List Link) (counts : List ℕ) (y b : ℕ) → slice_index counts b ≡ 0 → sees_on L counts y b ≡ false
none_on L counts y b none = ap (λ k. nat_lt 0 k && line_sees L (k - 1) y) none

-- then the branch adds no one
pub other_unseen : (L : List Link) (makers firsts counts : List ℕ) (y b m : ℕ) → sees_on L counts y b ≡ false → (other_sees L makers firsts counts y b && eqb (slice_index makers b) m) ≡ false
other_unseen L makers firsts counts y b m unseen = false_from_ne_true (other_sees L makers firsts counts y b && eqb (slice_index makers b) m) (λ h.
    let one = and_parts (other_sees L makers firsts counts y b) (eqb (slice_index makers b) m) h in
    let two = and_parts (nat_le (length firsts) b && not (own_sees firsts counts (slice_index makers b))) (sees_on L counts y b) one.0 in
    both_ways (sees_on L counts y b) unseen two.1)

-- self-ancestors are by one member
creator_to : (n : Stakes) (L : List Link) → IsShaped n L → (k x y : ℕ) → x < k → is_self_ancestor L x y ≡ true → creator L y ≡ creator L x
creator_to n L s zero x y h up = absurd (omega arith)
creator_to n L s (suc k) x y h up = elim (is_self_ancestor_cases L s.earlier x y up) [
  | inl same ↦ ap (creator L) (sym same)
  | inr by ↦ (let low : by.0 < x = (self_parent_earlier L s.earlier).earlier x by.0 by.1 in
      creator_to n L s k by.0 y (omega arith) by.2 ∙ s.self_by_same x by.0 by.1)
]

pub creator_of_line : (n : Stakes) (L : List Link) → IsShaped n L → (x y : ℕ) → is_self_ancestor L x y ≡ true → creator L y ≡ creator L x
creator_of_line n L s x y up = creator_to n L s (suc x) x y (omega arith) up

module _ (n : Stakes) (L : List Link) (branches makers ends : List ℕ) (held : HoldsBranches n L branches makers ends) (counts : List (List ℕ)) (rows : HoldsCounts n L branches makers counts) where
  abbrev B : Branching
  B = branching_of branches makers

  -- the last row that x counts of a branch
  pub last_row : (x b : ℕ) → x < length L → 0 < count_in counts x b → (count_in counts x b - 1 < length L) × (get_or branches (count_in counts x b - 1) 0 ≡ b)
  last_row x b hx some =
      let z = (rows.row x hx).last b some in
      let end : z.0 + 1 ≡ count_in counts x b = z.3 in
      let same : z.0 ≡ count_in counts x b - 1 = omega arith in
      (subst (λ k. k < length L) same z.1, subst (λ k. get_or branches k 0 ≡ b) same z.2)

  pub count_small : (x b : ℕ) → x < length L → count_in counts x b ≤ length L
  count_small x b hx = elim (cases_lt 0 (count_in counts x b)) [
    | inl some ↦ (let last = last_row x b hx some in let low : count_in counts x b - 1 < length L = last.0 in omega arith)
    | inr none ↦ omega arith
  ]

  pub sound_on : (x y b : ℕ) → x < length L → sees_on L (get_or counts x []) y b ≡ true → (z : ℕ) × (is_ancestor L x z ≡ true) × (creator L z ≡ get_or makers b 0) × (sees L z y ≡ true)
  sound_on x y b hx h =
      let count : ℕ = count_in counts x b in
      let parts = and_parts (nat_lt 0 count) (line_sees L (count - 1) y) h in
      let some : 0 < count = ltb-true 0 count parts.0 in
      let last = last_row x b hx some in
      let z : ℕ = count - 1 in
      let w = line_found L held.shaped.earlier z y parts.1 in
      let counted : is_ancestor L x z ≡ true = sym ((rows.row x hx).told z last.0) ∙ (ap (λ k. nat_lt z (count_in counts x k)) last.1 ∙ lt-ltb z count (omega arith)) in (
        w.0,
        is_ancestor-trans L held.shaped.earlier x z w.0 counted (is_ancestor-from_self L held.shaped.earlier z w.0 w.1),
        creator_of_line n L held.shaped z w.0 w.1 ∙ (held.lines.made z last.0 ∙ ap (λ k. get_or makers k 0) last.1),
        w.2,
      )

  pub complete_on : (x y z : ℕ) → x < length L → z < length L → is_ancestor L x z ≡ true → sees L z y ≡ true → sees_on L (get_or counts x []) y (get_or branches z 0) ≡ true
  complete_on x y z hx hz up seen =
      let b : ℕ = get_or branches z 0 in
      let count : ℕ = count_in counts x b in
      let over : z < count = ltb-true z count ((rows.row x hx).told z hz ∙ up) in
      let last = last_row x b hx (omega arith) in
      and_from (nat_lt 0 count) (line_sees L (count - 1) y) (lt-ltb 0 count (omega arith))
      (line_yes L held.shaped.earlier (count - 1) z y (held.lines.line (count - 1) z last.0 (omega arith) last.1) seen)

  -- x sees y through the members with a branch whose last counted row, or a self-ancestor of it, sees y
  pub seen_by_lines : (x y : ℕ) → x < length L → (m : ℕ) → seen_on L makers (get_or counts x []) y m ≡ sees_through L x y m
  seen_by_lines x y hx m = seen_by_branches L held.shaped.earlier B held.lines (length makers) held.known x y hx (sees_on L (get_or counts x []) y)
      (λ b h passes. sound_on x y b hx passes) (λ z hz up seen. complete_on x y z hx hz up seen) m
