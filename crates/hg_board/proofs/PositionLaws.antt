-- How often positions stand in lists, and sums over views of which one changes
use Rattle.std.proofs.Common.{◌≡◌, ◌≢◌, ℕ, zero, suc, ◌+◌, ◌<◌, ◌≤◌, eqb, ◌&&◌, List, [], ◌∷◌, ◌++◌, length, set, Bool, true, false, cond, nat_le, nat_lt, sum_by, refl, sym, ap, arith}
use Rattle.std.proofs.lemmas.Bool.Decides.{nat_tests}
use Rattle.std.proofs.lemmas.List.Sums.{sum_by-append, sum_by-cons}
use mathlib.Core.Option.{some, some-injective, some-ne-none}
use lib.ListN.{get_elem?}
use Rattle.hg_life.specs.History.{Change}
use Rattle.hg_gossip.specs.Holding.{positions_from}
use Rattle.hg_board.specs.Positions.{times, once_from, AreBelow}

pub times-append : (p : ℕ) (xs ys : List ℕ) → times p (xs ++ ys) ≡ times p xs + times p ys
unfolding times
times-append p xs ys = sum_by-append (λ q. cond (eqb q p) 1 0) xs ys

pub times_none : (p : ℕ) → times p [] ≡ 0
unfolding times
times_none p = refl

pub times_push : (p : ℕ) (xs : List ℕ) (q : ℕ) → times p (xs ++ q ∷ []) ≡ times p xs + cond (eqb q p) 1 0
unfolding times
times_push p xs q = omega (arith, sum_by-append (λ k. cond (eqb k p) 1 0) xs (q ∷ []))

pub once_none : (first p : ℕ) → once_from first first p ≡ 0
once_none first p = grind (arith, nat_tests)

pub once_push : (first end p : ℕ) → first ≤ end → once_from first (suc end) p ≡ once_from first end p + cond (eqb end p) 1 0
once_push first end p le = grind (arith, nat_tests)

once_by : (b : Bool) → cond b 1 0 ≤ 1
once_by true = omega arith
once_by false = omega arith

pub once_few : (first end p : ℕ) → once_from first end p ≤ 1
once_few first end p = once_by (nat_le first p && nat_lt p end)

pub below_more : (m n : ℕ) (xs : List ℕ) → m ≤ n → AreBelow m xs → AreBelow n xs
below_more m n [] le all = tt
below_more m n (x ∷ xs) le all = (omega (arith, all.0), below_more m n xs le all.1)

pub below_append : (n : ℕ) (xs ys : List ℕ) → AreBelow n xs → AreBelow n ys → AreBelow n (xs ++ ys)
below_append n [] ys all more = more
below_append n (x ∷ xs) ys all more = (all.0, below_append n xs ys all.1 more)

pub times_apart : (p q : ℕ) → q ≢ p → ◌≡◌ {A = ℕ} (cond (eqb q p) 1 0) 0
times_apart p q ne = grind (arith, nat_tests)

pub times_cons : (p q : ℕ) (qs : List ℕ) → times p (q ∷ qs) ≡ cond (eqb q p) 1 0 + times p qs
times_cons p q qs = omega (arith, times-append p (q ∷ []) qs, times_push p [] q, times_none p)

-- no position past the end stands in a list of positions below it
pub times_past : (end q : ℕ) (positions : List ℕ) → AreBelow end positions → end ≤ q → times q positions ≡ 0
times_past end q [] below past = times_none q
times_past end q (p ∷ positions) below past =
    omega (arith, times_cons q p positions, times_apart q p (λ e. let same : p ≡ q = e in omega (arith, same, below.0)), times_past end q positions below.1 past)

pub once_within : (first end q : ℕ) → first ≤ q → q < end → once_from first end q ≡ 1
once_within first end q from below = grind (arith, nat_tests)

pub from_below : (n : ℕ) (es : List Change) → AreBelow (n + length es) (positions_from n es)
from_below n [] = tt
from_below n (e ∷ es) = (omega arith, below_more (suc n + length es) (n + length (e ∷ es)) (positions_from (suc n) es) (omega arith) (from_below (suc n) es))

module _ {A : Type 0} (weight : A → ℕ) where
  pub sum_replaced : (xs : List A) (j : ℕ) (old new : A) → get_elem? xs j ≡ some old → sum_by weight (set xs j new) + weight old ≡ sum_by weight xs + weight new
  sum_replaced [] j old new at = absurd (some-ne-none old (sym at))
  sum_replaced (x ∷ xs) zero old new at = omega (arith, sum_by-cons weight new xs, sum_by-cons weight x xs, ap weight (some-injective x old at))
  sum_replaced (x ∷ xs) (suc j) old new at = omega (arith, sum_by-cons weight x (set xs j new), sum_by-cons weight x xs, sum_replaced xs j old new at)

  pub one_in_sum : (xs : List A) (j : ℕ) (x : A) → get_elem? xs j ≡ some x → weight x ≤ sum_by weight xs
  one_in_sum [] j x at = absurd (some-ne-none x (sym at))
  one_in_sum (y ∷ xs) zero x at = omega (arith, sum_by-cons weight y xs, ap weight (some-injective y x at))
  one_in_sum (y ∷ xs) (suc j) x at = omega (arith, sum_by-cons weight y xs, one_in_sum xs j x at)

  pub two_in_sum : (xs : List A) (j k : ℕ) (x y : A) → k ≢ j → get_elem? xs j ≡ some x → get_elem? xs k ≡ some y → weight x + weight y ≤ sum_by weight xs
  two_in_sum [] j k x y apart at there = absurd (some-ne-none x (sym at))
  two_in_sum (z ∷ xs) zero zero x y apart at there = absurd (apart refl)
  two_in_sum (z ∷ xs) zero (suc k) x y apart at there =
      omega (arith, sum_by-cons weight z xs, ap weight (some-injective z x at), one_in_sum xs k y there)
  two_in_sum (z ∷ xs) (suc j) zero x y apart at there =
      omega (arith, sum_by-cons weight z xs, ap weight (some-injective z y there), one_in_sum xs j x at)
  two_in_sum (z ∷ xs) (suc j) (suc k) x y apart at there =
      omega (arith, sum_by-cons weight z xs, two_in_sum xs j k x y (λ e. apart (ap suc e)) at there)

  pub sum_push : (xs : List A) (x : A) → sum_by weight (xs ++ x ∷ []) ≡ sum_by weight xs + weight x
  sum_push xs x = omega (arith, sum_by-append weight xs (x ∷ []))

module _ {A : Type 0} (weight other : A → ℕ) where
  -- where all weigh nothing, they weigh nothing by what is nothing for each
  none_in_sum : (xs : List A) → sum_by weight xs ≡ 0 → ((j : ℕ) (x : A) → get_elem? xs j ≡ some x → weight x ≡ 0 → other x ≡ 0) → sum_by other xs ≡ 0
  none_in_sum [] none each = refl
  none_in_sum (x ∷ xs) none each =
      let parts = sum_by-cons weight x xs in
      omega (arith, sum_by-cons other x xs, each 0 x refl (omega (arith, none, parts)), none_in_sum xs (omega (arith, none, parts)) (λ j y. each (suc j) y))

  -- where one weighs as much as all, it does so by the other too
  pub alone_in_sum : (xs : List A) (j : ℕ) (x : A) → get_elem? xs j ≡ some x → sum_by weight xs ≡ weight x →
      ((k : ℕ) (y : A) → get_elem? xs k ≡ some y → weight y ≡ 0 → other y ≡ 0) → sum_by other xs ≡ other x
  alone_in_sum [] j x at all each = absurd (some-ne-none x (sym at))
  alone_in_sum (y ∷ xs) zero x at all each =
      let same : y ≡ x = some-injective y x at in
      omega (arith, sum_by-cons other y xs, ap other same, none_in_sum xs (omega (arith, sum_by-cons weight y xs, ap weight same, all)) (λ k z. each (suc k) z))
  alone_in_sum (y ∷ xs) (suc j) x at all each =
      let within = one_in_sum weight xs j x at in
      let parts = sum_by-cons weight y xs in
      omega (arith, sum_by-cons other y xs, each 0 y refl (omega (arith, within, parts, all)), alone_in_sum xs j x at (omega (arith, within, parts, all)) (λ k z. each (suc k) z))
