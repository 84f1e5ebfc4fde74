-- The laws of seeing and strongly seeing
use Rattle.std.proofs.Common.{◌≡◌, ℕ, zero, suc, ◌*◌, ◌<◌, ◌≤◌, Bool, true, false, not, ◌&&◌, eqb, List, length, inl, inr, ◌⊎◌, arith}
use Rattle.std.proofs.lemmas.Bool.{and_parts, and_from, cases_Bool, eqb-true, ltb-true, lt-ltb, not-true, both_ways}
use Rattle.hg_model.specs.Places.{IsEarlier}
use Rattle.hg_model.specs.Stakes.{Stakes, member_count, stake_of, stake_where, total}
use Rattle.hg_model.specs.Links.{Link, parents, creator}
use Rattle.hg_model.specs.Ancestry.{is_ancestor, is_self_ancestor, some_ancestor}
use Rattle.hg_model.specs.Forks.{is_fork, has_fork_below, has_fork}
use Rattle.hg_model.specs.Seeing.{sees, sees_through, strongly_sees}
use Rattle.hg_model.proofs.PlacesLaws.{some_below_found, weight_below-le, weight_below_found}
use Rattle.hg_model.proofs.AncestryLaws.{self_parent_is_parent, self_parent_earlier, some_ancestor_from, is_ancestor_self, is_ancestor_by, is_ancestor-le, is_ancestor-trans, is_self_ancestor_cases}
use Rattle.hg_model.proofs.ForkLaws.{Fork, is_fork_from, has_fork_from}

module _ (L : List Link) (e : IsEarlier (parents L)) where
  from_self_to : (k x y : ℕ) → x < k → is_self_ancestor L x y ≡ true → is_ancestor L x y ≡ true
  from_self_to zero x y h s = absurd (omega arith)
  from_self_to (suc k) x y h s = elim (is_self_ancestor_cases L e x y s) [
    | inl same ↦ rw same (is_ancestor_self L e y)
    | inr by ↦ (let before : by.0 < x = (self_parent_earlier L e).earlier x by.0 by.1 in
        is_ancestor_by L e x by.0 y (self_parent_is_parent L x by.0 by.1) (from_self_to k by.0 y (omega arith) by.2))
  ]

  -- a self-ancestor is an ancestor
  pub is_ancestor-from_self : (x y : ℕ) → is_self_ancestor L x y ≡ true → is_ancestor L x y ≡ true
  is_ancestor-from_self x y s = from_self_to (suc x) x y (omega arith) s

  pub some_ancestor_found : (x : ℕ) (test : ℕ → Bool) → some_ancestor L x test ≡ true → (y : ℕ) × (y ≤ x) × (is_ancestor L x y ≡ true) × (test y ≡ true)
  some_ancestor_found x test h =
      let y = some_below_found (suc x) (λ y. is_ancestor L x y && test y) h in
      let parts = and_parts (is_ancestor L x y.0) (test y.0) y.2 in
      let low : y.0 < suc x = y.1 in
      (y.0, omega arith, parts.0, parts.1)

  pub some_ancestor_with : (x y : ℕ) (test : ℕ → Bool) → is_ancestor L x y ≡ true → test y ≡ true → some_ancestor L x test ≡ true
  some_ancestor_with x y test up h =
      let low : y ≤ x = is_ancestor-le L e x y up in
      some_ancestor_from L x y test (omega arith) (and_from (is_ancestor L x y) (test y) up h)

  -- what passes at some ancestor of a row passes at some ancestor of each row above it
  pub some_ancestor_grows : (x z : ℕ) (one two : ℕ → Bool) → is_ancestor L x z ≡ true → ((y : ℕ) → one y ≡ true → two y ≡ true) → some_ancestor L z one ≡ true → some_ancestor L x two ≡ true
  some_ancestor_grows x z one two up more h =
      let y = some_ancestor_found z one h in
      some_ancestor_with x y.0 two (is_ancestor-trans L e x z y.0 up y.2) (more y.0 y.3)

  -- forks stay among the ancestors of later rows
  pub has_fork_below_grows : (x z m : ℕ) → is_ancestor L x z ≡ true → has_fork_below L z m ≡ true → has_fork_below L x m ≡ true
  unfolding has_fork_below
  has_fork_below_grows x z m up f =
      some_ancestor_grows x z (λ a. some_ancestor L z (is_fork L m a)) (λ a. some_ancestor L x (is_fork L m a)) up
      (λ a. some_ancestor_grows x z (is_fork L m a) (is_fork L m a) up (λ b h. h)) f

  pub has_fork_below_from : (x a b m : ℕ) → is_ancestor L x a ≡ true → is_ancestor L x b ≡ true → is_fork L m a b ≡ true → has_fork_below L x m ≡ true
  unfolding has_fork_below
  has_fork_below_from x a b m up_a up_b f =
      some_ancestor_with x a (λ a. some_ancestor L x (is_fork L m a)) up_a (some_ancestor_with x b (is_fork L m a) up_b f)

  pub sees-is_ancestor : (x y : ℕ) → sees L x y ≡ true → is_ancestor L x y ≡ true
  unfolding sees
  sees-is_ancestor x y s = (and_parts (is_ancestor L x y) (not (has_fork_below L x (creator L y))) s).0

  -- the ancestors of who sees y hold no fork by the creator of y
  pub sees-no_fork : (x y : ℕ) → sees L x y ≡ true → has_fork_below L x (creator L y) ≡ false
  unfolding sees
  sees-no_fork x y s = not-true (has_fork_below L x (creator L y)) (and_parts (is_ancestor L x y) (not (has_fork_below L x (creator L y))) s).1

  pub sees_through_found : (x y m : ℕ) → sees_through L x y m ≡ true → (z : ℕ) × (z ≤ x) × (is_ancestor L x z ≡ true) × (creator L z ≡ m) × (sees L z y ≡ true)
  unfolding sees_through
  sees_through_found x y m h =
      let z = some_ancestor_found x (λ z. eqb (creator L z) m && sees L z y) h in
      let parts = and_parts (eqb (creator L z.0) m) (sees L z.0 y) z.3 in
      (z.0, z.1, z.2, eqb-true (creator L z.0) m parts.0, parts.1)

  pub sees_through_grows : (x z y m : ℕ) → is_ancestor L x z ≡ true → sees_through L z y m ≡ true → sees_through L x y m ≡ true
  unfolding sees_through
  sees_through_grows x z y m up h =
      let test : ℕ → Bool = λ v. eqb (creator L v) m && sees L v y in
      some_ancestor_grows x z test test up (λ v t. t) h

  -- what an ancestor of x strongly sees, x strongly sees
  pub strongly_sees_grows : (n : Stakes) (x p y : ℕ) → is_ancestor L x p ≡ true → strongly_sees n L p y ≡ true → strongly_sees n L x y ≡ true
  unfolding strongly_sees
  strongly_sees_grows n x p y up s =
      let above = stake_where n (sees_through L x y) in
      let below = stake_where n (sees_through L p y) in
      let many : 2 * total n < 3 * below = ltb-true (2 * total n) (3 * below) s in
      let more : below ≤ above = weight_below-le (stake_of n) (member_count n) (sees_through L p y) (sees_through L x y) (λ m h t. sees_through_grows x p y m up t) in
      lt-ltb (2 * total n) (3 * above) (omega arith)

  pub strongly_sees-is_ancestor : (n : Stakes) (x y : ℕ) → strongly_sees n L x y ≡ true → is_ancestor L x y ≡ true
  unfolding strongly_sees
  strongly_sees-is_ancestor n x y s =
      let count = stake_where n (sees_through L x y) in
      let many : 2 * total n < 3 * count = ltb-true (2 * total n) (3 * count) s in
      let m = weight_below_found (stake_of n) (member_count n) (sees_through L x y) (omega arith) in
      let z = sees_through_found x y m.0 m.2 in
      is_ancestor-trans L e x z.0 y z.2 (sees-is_ancestor z.0 y z.4)

-- of two rows of a member without a fork one is a self-ancestor of the other
pub in_line : (L : List Link) (m a b : ℕ) → a < length L → b < length L → creator L a ≡ m → creator L b ≡ m → has_fork L m ≡ false →
    (is_self_ancestor L a b ≡ true) ⊎ (is_self_ancestor L b a ≡ true)
in_line L m a b ha hb by_a by_b none = elim (cases_Bool (is_self_ancestor L a b)) [
  | inl above ↦ inl above
  | inr not_above ↦ elim (cases_Bool (is_self_ancestor L b a)) [
    | inl below ↦ inr below
    | inr not_below ↦ (let fork : Fork L m a b = record { first = by_a; second = by_b; not_above = not_above; not_below = not_below } in
        absurd (both_ways (has_fork L m) none (has_fork_from L m a b ha hb (is_fork_from L m a b fork))))
  ]
]
