-- The least and the greatest of what a search finds
use Rattle.std.proofs.Common.{◌≡◌, ℕ, zero, suc, ◌<◌, ◌≤◌, Bool, true, false, leb, Option, Some, None, IfSome, sym, refl, ◌∙◌, subst, inl, inr, ◌⊎◌, arith, le-leb}
use Rattle.std.proofs.lemmas.Bool.{cases_Bool, cases_eq, both_ways}
use Rattle.hg_model.specs.Places.{lesser_of, least_below, greatest_below}
use Rattle.hg_model.proofs.SearchLaws.{IsFoundBelow, least_below_found, least_below_none, least_number_first}

pub option_cases : {A : Type 0} (o : Option A) → (o ≡ None) ⊎ ((v : A) × (o ≡ Some v))
option_cases None = inl refl
option_cases (Some v) = inr (v, refl)

-- a search without a find means that nothing passes
none_passes : (key : ℕ → ℕ) (n : ℕ) (test : ℕ → Bool) → least_below key n test ≡ None → (s : ℕ) → s < n → test s ≡ true → ⊥
unfolding least_below
none_passes key zero test none s low passes = omega arith
none_passes key (suc n) test none s low passes = elim (cases_Bool (test n)) [
  | inl last ↦ (let found : least_below key (suc n) test ≡ Some (lesser_of key (least_below key n test) n) = rw last refl in cc)
  | inr fails ↦ (
      let before : least_below key n test ≡ None = sym (rw fails refl) ∙ none in
      elim (cases_eq s n) [
        | inl same ↦ both_ways (test n) fails (subst (λ k. test k ≡ true) same passes)
        | inr other ↦ none_passes key n test before s (omega arith) passes
      ])
]

-- what is found stands below the bound, and passes
pub least_below_is : (key : ℕ → ℕ) (n : ℕ) (test : ℕ → Bool) (k : ℕ) → least_below key n test ≡ Some k → IsFoundBelow test n k
least_below_is key n test k is = subst (λ (o : Option ℕ). IfSome o (IsFoundBelow test n)) is (least_below_found key n test)

-- no lesser number passes
pub least_number_is : (n : ℕ) (test : ℕ → Bool) (k : ℕ) → least_below (λ r. r) n test ≡ Some k → (s : ℕ) → s < k → test s ≡ true → ⊥
unfolding least_below
least_number_is zero test k is s low passes = cc
least_number_is (suc n) test k is s low passes = elim (cases_Bool (test n)) [
  | inl last ↦ elim (option_cases (least_below (λ r. r) n test)) [
    | inl none ↦ (
        let found : least_below (λ r. r) (suc n) test ≡ Some n = rw (last, none) refl in
        let same : Some k ≡ Some n = sym is ∙ found in
        let at : k ≡ n = cc in
        none_passes (λ r. r) n test none s (omega arith) passes)
    | inr some ↦ (
        let below = (least_below_is (λ r. r) n test some.0 some.1).0 in
        let le : leb some.0 n ≡ true = le-leb some.0 n (omega arith) in
        let found : least_below (λ r. r) (suc n) test ≡ Some some.0 = rw (last, some.1, le) refl in
        let same : Some k ≡ Some some.0 = sym is ∙ found in
        let at : k ≡ some.0 = cc in
        least_number_is n test some.0 some.1 s (omega arith) passes)
  ]
  | inr fails ↦ (
      let before : least_below (λ r. r) n test ≡ Some k = sym (rw fails refl) ∙ is in
      least_number_is n test k before s low passes)
]

-- the number that passes, where no lesser one does
pub least_number_from : (n : ℕ) (test : ℕ → Bool) (k : ℕ) → k < n → test k ≡ true → ((s : ℕ) → s < k → test s ≡ false) → least_below (λ r. r) n test ≡ Some k
least_number_from n test k low passes least = least_number_first n k test low (least_below_none (λ r. r) k test least) passes

-- no number that passes is above the greatest
pub greatest_below_bounds : (n : ℕ) (test : ℕ → Bool) (k : ℕ) → k < n → test k ≡ true → k ≤ greatest_below n test
unfolding greatest_below
greatest_below_bounds zero test k low passes = absurd (omega arith)
greatest_below_bounds (suc n) test k low passes = elim (cases_Bool (test n)) [
  | inl last ↦ rw last (omega arith)
  | inr fails ↦ elim (cases_eq k n) [
    | inl same ↦ absurd (both_ways (test n) fails (subst (λ j. test j ≡ true) same passes))
    | inr other ↦ rw fails (greatest_below_bounds n test k (omega arith) passes)
  ]
]

-- the greatest passes, unless it is 0
pub greatest_below_true : (n : ℕ) (test : ℕ → Bool) → 0 < greatest_below n test → test (greatest_below n test) ≡ true
unfolding greatest_below
greatest_below_true zero test pos = absurd (omega arith)
greatest_below_true (suc n) test pos = elim (cases_Bool (test n)) [
  | inl last ↦ (let is : greatest_below (suc n) test ≡ n = rw last refl in subst (λ k. test k ≡ true) (sym is) last)
  | inr fails ↦ (
      let is : greatest_below (suc n) test ≡ greatest_below n test = rw fails refl in
      subst (λ k. test k ≡ true) (sym is) (greatest_below_true n test (omega arith)))
]
