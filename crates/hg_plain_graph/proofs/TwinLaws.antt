-- Where a member has a fork it has twins, and the other way round
use Rattle.std.proofs.Common.{◌≡◌, ◌≢◌, ℕ, ◌<◌, true, ◌&&◌, eqb, List, [], ◌∷◌, length, map, get_or, Some, None, refl, sym, ap, ap₂, ◌∙◌, inl, inr, arith}
use Rattle.std.proofs.lemmas.Bool.{cases_lt, and_parts, and_from, eqb-true, eq-eqb, true≢false}
use Rattle.std.proofs.lemmas.Slice.Eq.{bytes_eq-Decides}
use Rattle.std.proofs.lemmas.Option.{slice_get_read, slice_get_cases}
use Rattle.hg_model.specs.declared.row.Row.{Row}
use Rattle.hg_model.specs.Places.{has_place, IsEarlier}
use Rattle.hg_model.specs.Links.{ParentNames, place_of, parent_names, first_place, links, parents, self_parent, creator}
use Rattle.hg_model.specs.Graph.{creator_at, creator_of_row}
use Rattle.hg_model.specs.Forks.{has_fork}
use Rattle.hg_model.proofs.PlacesLaws.{some_below_from, some_below_found}
use Rattle.hg_model.proofs.LinkLaws.{length-links, creator-links, self_parent-links, same_place-same_name}
use Rattle.hg_model.proofs.ReachLaws.{bool_iff, has_place_first}
use Rattle.hg_model.proofs.AncestryLaws.{self_parent_is_parent}
use Rattle.hg_model.proofs.ForkLaws.{Twins, has_fork_from, has_fork_found, is_fork_from, fork_of_twins, twins_of_fork}
use Rattle.hg_plain_graph.specs.Twins.{is_same_self_parent, is_twin_row, is_twin_in, is_twin, has_twin_before, has_twins}

pub is_twin_read : (G : List Row) (x y : ℕ) (a b : Row) → x < length G → y < length G → a ≡ get_or G x a → b ≡ get_or G y b → is_twin G x y ≡ is_twin_row a b
unfolding is_twin
is_twin_read G x y a b hx hy is_a is_b = ap₂ is_twin_in (slice_get_read G (length G) x a refl hx is_a) (slice_get_read G (length G) y b refl hy is_b)

-- equal names stand for equal places
same_places : (G : List Row) (one two : ParentNames) → is_same_self_parent one two ≡ true →
    first_place (map (place_of G) (parent_names one)) ≡ first_place (map (place_of G) (parent_names two))
same_places G None None h = refl
same_places G None (Some other) h = absurd (true≢false (sym h))
same_places G (Some names) None h = absurd (true≢false (sym h))
same_places G (Some names) (Some other) h = ap (λ name. place_of G name ∷ []) ((bytes_eq-Decides names.0 other.0).0 h)

abbrev earlier_of : List ℕ → ℕ
earlier_of [] = 0
earlier_of (p ∷ ps) = p

-- and equal places, where there are rows, for equal names
same_names : (G : List Row) (one two : ParentNames) →
    ((p : ℕ) → has_place (first_place (map (place_of G) (parent_names one))) p ≡ true → p < length G) →
    first_place (map (place_of G) (parent_names one)) ≡ first_place (map (place_of G) (parent_names two)) → is_same_self_parent one two ≡ true
same_names G None None found same = refl
same_names G None (Some other) found same = absurd cc
same_names G (Some names) None found same = absurd cc
same_names G (Some names) (Some other) found same =
    let one_place : place_of G names.0 ≡ place_of G other.0 = ap earlier_of same in
    let inside : place_of G names.0 < length G = found (place_of G names.0) (has_place_first (place_of G names.0) []) in
    (bytes_eq-Decides names.0 other.0).1 (same_place-same_name G names.0 other.0 inside one_place)

row_creator-links : (G : List Row) (x : ℕ) → x < length G → (row : Row) → row ≡ get_or G x row → creator_at G x ≡ creator (links G) x
row_creator-links G x h row is = ap creator_of_row (slice_get_read G (length G) x row refl h is) ∙ sym (creator-links G x row h is)

-- the row at a place
row_at : (G : List Row) (x : ℕ) → x < length G → (row : Row) × (row ≡ get_or G x row)
row_at G x h = elim (slice_get_cases G x).1 [
  | inl here ↦ (here.0, sym here.3)
  | inr past ↦ absurd (omega (arith, past.0))
]

module _ (G : List Row) (e : IsEarlier (parents (links G))) (self_place : (x p : ℕ) → has_place (self_parent (links G) x) p ≡ true → creator (links G) p ≡ creator (links G) x) where
  twins_from_rows : (x y m : ℕ) → x < length G → y < x → creator (links G) x ≡ m → is_twin G x y ≡ true → Twins (links G) m x y
  twins_from_rows x y m hx hy by_m h =
      let a = row_at G x hx in
      let b = row_at G y (omega arith) in
      let parts = and_parts (eqb a.0.creator b.0.creator) (is_same_self_parent a.0.parents b.0.parents) (sym (is_twin_read G x y a.0 b.0 hx (omega arith) a.1 b.1) ∙ h) in
      let creator_x = creator-links G x a.0 hx a.1 in
      let creator_y = creator-links G y b.0 (omega arith) b.1 in
      record {
        first = by_m;
        second = creator_y ∙ (sym (eqb-true a.0.creator b.0.creator parts.0) ∙ (sym creator_x ∙ by_m));
        apart = λ same. omega arith;
        on_same = self_parent-links G x a.0 hx a.1 ∙ (same_places G a.0.parents b.0.parents parts.1 ∙ sym (self_parent-links G y b.0 (omega arith) b.1));
      }

  rows_from_twins : (x y m : ℕ) → x < length G → y < length G → Twins (links G) m x y → is_twin G x y ≡ true
  rows_from_twins x y m hx hy t =
      let a = row_at G x hx in
      let b = row_at G y hy in
      let self_x = self_parent-links G x a.0 hx a.1 in
      let self_y = self_parent-links G y b.0 hy b.1 in
      let same_creator : a.0.creator ≡ b.0.creator = sym (creator-links G x a.0 hx a.1) ∙ (t.first ∙ (sym t.second ∙ creator-links G y b.0 hy b.1)) in
      is_twin_read G x y a.0 b.0 hx hy a.1 b.1
      ∙ and_from (eqb a.0.creator b.0.creator) (is_same_self_parent a.0.parents b.0.parents) (eq-eqb a.0.creator b.0.creator same_creator)
      (same_names G a.0.parents b.0.parents
      (λ p h. let before : p < x = e.earlier x p (self_parent_is_parent (links G) x p (rw self_x h)) in omega arith)
      (sym self_x ∙ (t.on_same ∙ self_y)))

  twins_to_has : (x y m : ℕ) → x < length G → y < x → Twins (links G) m x y → has_twins G m ≡ true
  unfolding has_twins has_twin_before
  twins_to_has x y m hx hy t =
      let row = row_at G x hx in
      let test = λ (x : ℕ). eqb (creator_at G x) m && has_twin_before G x in
      some_below_from (length G) test x hx
      (and_from (eqb (creator_at G x) m) (has_twin_before G x)
      (eq-eqb (creator_at G x) m (row_creator-links G x hx row.0 row.1 ∙ t.first))
      (some_below_from x (is_twin G x) y hy (rows_from_twins x y m hx (omega arith) t)))

  has_twins-from : (m : ℕ) → has_fork (links G) m ≡ true → has_twins G m ≡ true
  has_twins-from m h =
      let fork = has_fork_found (links G) m h in
      let len = length-links G in
      let t = twins_of_fork (links G) e self_place (length G) m fork.0 fork.1 (omega (arith, fork.2)) (omega (arith, fork.3)) fork.4 in
      elim (cases_lt t.0 t.1) [
        | inl lower ↦ twins_to_has t.1 t.0 m t.3 lower (record { first = t.4.second; second = t.4.first; apart = λ same. t.4.apart (sym same); on_same = sym t.4.on_same })
        | inr upper ↦ (let apart : t.0 ≢ t.1 = t.4.apart in twins_to_has t.0 t.1 m t.2 (omega arith) t.4)
      ]

  has_twins-to : (m : ℕ) → has_twins G m ≡ true → has_fork (links G) m ≡ true
  unfolding has_twins has_twin_before
  has_twins-to m h =
      let found = some_below_found (length G) (λ x. eqb (creator_at G x) m && has_twin_before G x) h in
      let x : ℕ = found.0 in
      let hx : x < length G = found.1 in
      let parts = and_parts (eqb (creator_at G x) m) (has_twin_before G x) found.2 in
      let before = some_below_found x (is_twin G x) parts.1 in
      let y : ℕ = before.0 in
      let hy : y < x = before.1 in
      let row = row_at G x hx in
      let by_m : creator (links G) x ≡ m = sym (row_creator-links G x hx row.0 row.1) ∙ eqb-true (creator_at G x) m parts.0 in
      let len = length-links G in
      has_fork_from (links G) m x y (omega arith) (omega arith)
      (is_fork_from (links G) m x y (fork_of_twins (links G) e self_place m x y (twins_from_rows x y m hx hy by_m before.2)))

  pub has_fork-has_twins : (m : ℕ) → has_fork (links G) m ≡ has_twins G m
  has_fork-has_twins m = bool_iff (has_fork (links G) m) (has_twins G m) (has_twins-from m) (has_twins-to m)
