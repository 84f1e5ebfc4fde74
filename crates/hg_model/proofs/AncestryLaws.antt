-- The laws of ancestors and self-ancestors
use Rattle.std.proofs.Common.{◌≡◌, ℕ, suc, ◌+◌, ◌<◌, ◌≤◌, Bool, true, ◌||◌, ◌&&◌, eqb, List, [], ◌∷◌, inl, inr, ◌⊎◌, arith}
use Rattle.std.proofs.lemmas.Bool.{or_cases, or_left, or_right, and_parts, and_from}
use Rattle.std.specs.List.{list_any}
use Rattle.hg_model.specs.Places.{has_place, IsEarlier}
use Rattle.hg_model.specs.Links.{Link, parents, self_parent, first_place}
use Rattle.hg_model.specs.Ancestry.{is_ancestor, is_self_ancestor, some_ancestor}
use Rattle.hg_model.proofs.PlacesLaws.{some_below_from, some_below_found}
use Rattle.hg_model.proofs.ReachLaws.{bool_iff, list_any_found, list_any_from, reaches-at, reaches_self, reaches_by, reaches_cases, reaches-le, reaches-trans}

first_place_has : (ps : List ℕ) (p : ℕ) → has_place (first_place ps) p ≡ true → has_place ps p ≡ true
first_place_has [] p h = h
first_place_has (q ∷ qs) p h = elim (or_cases (eqb q p) (has_place [] p) h) [
  | inl first ↦ or_left (eqb q p) (has_place qs p) first
  | inr none ↦ or_right (eqb q p) (has_place qs p) (absurd cc)
]

-- a self-parent is a parent
pub self_parent_is_parent : (L : List Link) (x p : ℕ) → has_place (self_parent L x) p ≡ true → has_place (parents L x) p ≡ true
unfolding self_parent
self_parent_is_parent L x p h = first_place_has (parents L x) p h

pub self_parent_earlier : (L : List Link) → IsEarlier (parents L) → IsEarlier (self_parent L)
self_parent_earlier L e = record { earlier = λ x p h. e.earlier x p (self_parent_is_parent L x p h) }

pub some_ancestor_from : (L : List Link) (x y : ℕ) (test : ℕ → Bool) → y < x + 1 → (is_ancestor L x y && test y) ≡ true → some_ancestor L x test ≡ true
some_ancestor_from L x y test h passes = some_below_from (suc x) (λ y. is_ancestor L x y && test y) y (omega arith) passes

module _ (L : List Link) (e : IsEarlier (parents L)) where
  pub is_ancestor-at : (x y : ℕ) → is_ancestor L x y ≡ (eqb x y || list_any (λ p. is_ancestor L p y) (parents L x))
  unfolding is_ancestor
  is_ancestor-at x y = reaches-at (parents L) e x y

  pub is_ancestor_self : (x : ℕ) → is_ancestor L x x ≡ true
  unfolding is_ancestor
  is_ancestor_self x = reaches_self (parents L) e x

  pub is_ancestor_by : (x p y : ℕ) → has_place (parents L x) p ≡ true → is_ancestor L p y ≡ true → is_ancestor L x y ≡ true
  unfolding is_ancestor
  is_ancestor_by x p y h r = reaches_by (parents L) e x p y h r

  pub is_ancestor-le : (x y : ℕ) → is_ancestor L x y ≡ true → y ≤ x
  unfolding is_ancestor
  is_ancestor-le x y r = reaches-le (parents L) e x y r

  pub is_ancestor-trans : (x y z : ℕ) → is_ancestor L x y ≡ true → is_ancestor L y z ≡ true → is_ancestor L x z ≡ true
  unfolding is_ancestor
  is_ancestor-trans x y z r s = reaches-trans (parents L) e x y z r s

  pub is_ancestor_cases : (x y : ℕ) → is_ancestor L x y ≡ true → (x ≡ y) ⊎ ((p : ℕ) × (has_place (parents L x) p ≡ true) × (is_ancestor L p y ≡ true))
  unfolding is_ancestor
  is_ancestor_cases x y r = reaches_cases (parents L) e x y r

  pub is_self_ancestor-at : (x y : ℕ) → is_self_ancestor L x y ≡ (eqb x y || list_any (λ p. is_self_ancestor L p y) (self_parent L x))
  unfolding is_self_ancestor
  is_self_ancestor-at x y = reaches-at (self_parent L) (self_parent_earlier L e) x y

  pub is_self_ancestor_self : (x : ℕ) → is_self_ancestor L x x ≡ true
  unfolding is_self_ancestor
  is_self_ancestor_self x = reaches_self (self_parent L) (self_parent_earlier L e) x

  pub is_self_ancestor_by : (x p y : ℕ) → has_place (self_parent L x) p ≡ true → is_self_ancestor L p y ≡ true → is_self_ancestor L x y ≡ true
  unfolding is_self_ancestor
  is_self_ancestor_by x p y h r = reaches_by (self_parent L) (self_parent_earlier L e) x p y h r

  pub is_self_ancestor_cases : (x y : ℕ) → is_self_ancestor L x y ≡ true → (x ≡ y) ⊎ ((p : ℕ) × (has_place (self_parent L x) p ≡ true) × (is_self_ancestor L p y ≡ true))
  unfolding is_self_ancestor
  is_self_ancestor_cases x y r = reaches_cases (self_parent L) (self_parent_earlier L e) x y r

  pub is_self_ancestor-le : (x y : ℕ) → is_self_ancestor L x y ≡ true → y ≤ x
  unfolding is_self_ancestor
  is_self_ancestor-le x y r = reaches-le (self_parent L) (self_parent_earlier L e) x y r

  pub is_self_ancestor-trans : (x y z : ℕ) → is_self_ancestor L x y ≡ true → is_self_ancestor L y z ≡ true → is_self_ancestor L x z ≡ true
  unfolding is_self_ancestor
  is_self_ancestor-trans x y z r s = reaches-trans (self_parent L) (self_parent_earlier L e) x y z r s

  -- some ancestor of x passes: x itself, or some ancestor of a parent
  some_ancestor_to : (x : ℕ) (test : ℕ → Bool) → some_ancestor L x test ≡ true → (test x || list_any (λ p. some_ancestor L p test) (parents L x)) ≡ true
  unfolding is_ancestor
  some_ancestor_to x test h =
      let found = some_below_found (suc x) (λ y. is_ancestor L x y && test y) h in
      let y : ℕ = found.0 in
      let parts = and_parts (is_ancestor L x y) (test y) found.2 in
      elim (reaches_cases (parents L) e x y parts.0) [
        | inl same ↦ or_left (test x) (list_any (λ p. some_ancestor L p test) (parents L x)) (rw same parts.1)
        | inr by ↦ (let le : y ≤ by.0 = is_ancestor-le by.0 y by.2 in
            or_right (test x) (list_any (λ p. some_ancestor L p test) (parents L x))
            (list_any_from (λ p. some_ancestor L p test) (parents L x) by.0 by.1
            (some_below_from (suc by.0) (λ y. is_ancestor L by.0 y && test y) y (omega arith) (and_from (is_ancestor L by.0 y) (test y) by.2 parts.1))))
      ]

  some_ancestor_back : (x : ℕ) (test : ℕ → Bool) → (test x || list_any (λ p. some_ancestor L p test) (parents L x)) ≡ true → some_ancestor L x test ≡ true
  some_ancestor_back x test h = elim (or_cases (test x) (list_any (λ p. some_ancestor L p test) (parents L x)) h) [
    | inl here ↦ some_below_from (suc x) (λ y. is_ancestor L x y && test y) x (omega arith) (and_from (is_ancestor L x x) (test x) (is_ancestor_self x) here)
    | inr above ↦
        (let by = list_any_found (λ p. some_ancestor L p test) (parents L x) above in
        let p : ℕ = by.0 in
        let found = some_below_found (suc p) (λ y. is_ancestor L p y && test y) by.2 in
        let y : ℕ = found.0 in
        let y_below : y < suc p = found.1 in
        let p_below : p < x = e.earlier x p by.1 in
        let parts = and_parts (is_ancestor L p y) (test y) found.2 in
        some_below_from (suc x) (λ y. is_ancestor L x y && test y) y (omega arith)
        (and_from (is_ancestor L x y) (test y) (is_ancestor_by x p y by.1 parts.0) parts.1))
  ]

  pub some_ancestor-at : (x : ℕ) (test : ℕ → Bool) → some_ancestor L x test ≡ (test x || list_any (λ p. some_ancestor L p test) (parents L x))
  some_ancestor-at x test = bool_iff (some_ancestor L x test) (test x || list_any (λ p. some_ancestor L p test) (parents L x)) (some_ancestor_to x test) (some_ancestor_back x test)
