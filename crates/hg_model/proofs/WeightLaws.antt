-- What a place that passes adds to a weight
use Rattle.std.proofs.Common.{◌≡◌, ◌≢◌, ℕ, zero, suc, ◌+◌, ◌<◌, Bool, true, false, cond, ◌&&◌, not, eqb, sym, refl, ap, inl, inr, arith, ◌||◌}
use Rattle.std.proofs.lemmas.Bool.{cases_eq, eq-eqb, ne_eqb}
use Rattle.std.proofs.Math.Bool.{and-true, and-false}
use Rattle.hg_model.specs.Places.{weight_below}
use Rattle.hg_model.proofs.PlacesLaws.{weight_below-same}

-- the place y is another than k, and passes
abbrev pub passes_beside : (ℕ → Bool) → ℕ → ℕ → Bool
passes_beside test k y = test y && not (eqb y k)

pub beside_other : (test : ℕ → Bool) (k y : ℕ) → y ≢ k → passes_beside test k y ≡ test y
beside_other test k y other = rw (ne_eqb y k other) (and-true (test y))

pub beside_itself : (test : ℕ → Bool) (k : ℕ) → passes_beside test k k ≡ false
beside_itself test k = rw (eq-eqb k k refl) (and-false (test k))

-- a place that passes weighs what is missing without it
pub weight_below_beside : (weight : ℕ → ℕ) (n : ℕ) (test : ℕ → Bool) (k : ℕ) → k < n → test k ≡ true →
    weight_below weight n test ≡ weight_below weight n (passes_beside test k) + weight k
unfolding weight_below
weight_below_beside weight zero test k h passes = absurd (omega arith)
weight_below_beside weight (suc n) test k h passes = elim (cases_eq k n) [
  | inl last ↦
      (let before = weight_below-same weight n test (passes_beside test k) (λ y below. sym (beside_other test k y (λ same. absurd (omega arith)))) in
      let here : cond (test n) (weight n) 0 ≡ weight k = rw (← last, passes) refl in
      let gone : cond (passes_beside test k n) (weight n) 0 ≡ 0 = rw (← last, beside_itself test k) refl in
      omega (arith, before, here, gone))
  | inr other ↦
      (let before = weight_below_beside weight n test k (omega arith) passes in
      let here : cond (test n) (weight n) 0 ≡ cond (passes_beside test k n) (weight n) 0 = ap (λ b. cond b (weight n) 0) (sym (beside_other test k n (λ same. other (sym same)))) in
      omega (arith, before, here))
]

union_step : (a b : Bool) (v : ℕ) → cond a v 0 + cond b v 0 ≡ cond (a || b) v 0 + cond (a && b) v 0
union_step a b v = grind arith

-- inclusion and exclusion
pub weight_below_both : (weight : ℕ → ℕ) (n : ℕ) (one two : ℕ → Bool) →
    weight_below weight n one + weight_below weight n two ≡ weight_below weight n (λ k. one k || two k) + weight_below weight n (λ k. one k && two k)
unfolding weight_below
weight_below_both weight zero one two = refl
weight_below_both weight (suc n) one two = omega (arith, weight_below_both weight n one two, union_step (one n) (two n) (weight n))

split_step : (a b : Bool) (v : ℕ) → cond a v 0 ≡ cond (a && b) v 0 + cond (a && not b) v 0
split_step a b v = grind arith

-- those of a set that are in another, and those that are not
pub weight_below_split : (weight : ℕ → ℕ) (n : ℕ) (test other : ℕ → Bool) →
    weight_below weight n test ≡ weight_below weight n (λ k. test k && other k) + weight_below weight n (λ k. test k && not (other k))
unfolding weight_below
weight_below_split weight zero test other = refl
weight_below_split weight (suc n) test other = omega (arith, weight_below_split weight n test other, split_step (test n) (other n) (weight n))
