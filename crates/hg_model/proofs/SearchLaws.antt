-- The laws of searches for the least and the greatest
use Rattle.std.proofs.Common.{◌≡◌, ℕ, zero, suc, ◌<◌, Bool, true, false, leb, Option, Some, None, IfSome, option_map, refl, ap, inl, inr, arith, le-leb}
use Rattle.std.proofs.lemmas.Bool.{cases_Bool, cases_lt, cond_both, both_ways}
use Rattle.hg_model.specs.Places.{lesser_of, least_below, greatest_below}

-- what is found stands below the bound, and passes

abbrev pub IsFoundBelow : (ℕ → Bool) → ℕ → ℕ → Type 0
IsFoundBelow test n k = (k < n) × (test k ≡ true)

lesser_of_found : (key : ℕ → ℕ) (test : ℕ → Bool) (n : ℕ) (earlier : Option ℕ) → IfSome earlier (IsFoundBelow test n) → test n ≡ true →
    IsFoundBelow test (suc n) (lesser_of key earlier n)
lesser_of_found key test n None found here = (omega arith, here)
lesser_of_found key test n (Some k) found here =
    cond_both (leb (key k) (key n)) k n (IsFoundBelow test (suc n)) (λ le. (omega (arith, found.0), found.1)) (λ gt. (omega arith, here))

within_more : (test : ℕ → Bool) (n : ℕ) (found : Option ℕ) → IfSome found (IsFoundBelow test n) → IfSome found (IsFoundBelow test (suc n))
within_more test n None h = tt
within_more test n (Some k) h = (omega (arith, h.0), h.1)

pub least_below_found : (key : ℕ → ℕ) (n : ℕ) (test : ℕ → Bool) → IfSome (least_below key n test) (IsFoundBelow test n)
unfolding least_below
least_below_found key zero test = tt
least_below_found key (suc n) test = elim (cases_Bool (test n)) [
  | inl passes ↦ rw passes (lesser_of_found key test n (least_below key n test) (least_below_found key n test) passes)
  | inr fails ↦ rw fails (within_more test n (least_below key n test) (least_below_found key n test))
]

-- something is found where something passes
pub least_below_some : (key : ℕ → ℕ) (n : ℕ) (test : ℕ → Bool) (k : ℕ) → k < n → test k ≡ true → (found : ℕ) × (least_below key n test ≡ Some found)
unfolding least_below
least_below_some key zero test k h here = absurd (omega arith)
least_below_some key (suc n) test k h here = elim (cases_Bool (test n)) [
  | inl passes ↦ (lesser_of key (least_below key n test) n, rw passes refl)
  | inr fails ↦ elim (cases_lt k n) [
    | inl below ↦ (let before = least_below_some key n test k below here in (before.0, rw fails before.1))
    | inr last ↦ (let same : k ≡ n = omega arith in absurd (both_ways (test n) fails (rw same at here)))
  ]
]

-- nothing is found where nothing passes
pub least_below_none : (key : ℕ → ℕ) (n : ℕ) (test : ℕ → Bool) → ((k : ℕ) → k < n → test k ≡ false) → least_below key n test ≡ None
unfolding least_below
least_below_none key zero test none = refl
least_below_none key (suc n) test none = rw (none n (omega arith)) (least_below_none key n test (λ k h. none k (omega arith)))

pub least_below-same : (key : ℕ → ℕ) (n : ℕ) (one two : ℕ → Bool) → ((k : ℕ) → k < n → one k ≡ two k) → least_below key n one ≡ least_below key n two
unfolding least_below
least_below-same key zero one two same = refl
least_below-same key (suc n) one two same =
    rw (same n (omega arith), least_below-same key n one two (λ k h. same k (omega arith))) refl

-- two functions that agree at what is found
pub option_map-least_below : {A : Type 0} (f g : ℕ → A) (key : ℕ → ℕ) (n : ℕ) (test : ℕ → Bool) → ((k : ℕ) → k < n → test k ≡ true → f k ≡ g k) →
    option_map f (least_below key n test) ≡ option_map g (least_below key n test)
option_map-least_below f g key n test same = at_found (least_below key n test) (least_below_found key n test)
  where
    at_found : (found : Option ℕ) → IfSome found (IsFoundBelow test n) → option_map f found ≡ option_map g found
    at_found None h = refl
    at_found (Some k) h = ap (λ v. Some v) (same k h.0 h.1)

-- the first number that passes is the least

pub least_number_first : (n k : ℕ) (test : ℕ → Bool) → k < n → least_below (λ r. r) k test ≡ None → test k ≡ true → least_below (λ r. r) n test ≡ Some k
unfolding least_below
least_number_first zero k test h none here = absurd (omega arith)
least_number_first (suc n) k test h none here = elim (cases_lt k n) [
  | inl below ↦ (let before = least_number_first n k test below none here in
      let le : leb k n ≡ true = le-leb k n (omega arith) in
      elim (cases_Bool (test n)) [
        | inl passes ↦ rw (passes, before, le) refl
        | inr fails ↦ rw fails before
      ])
  | inr last ↦ (let e : k ≡ n = omega arith in rw (← e, here, none) refl)
]

pub greatest_below-same : (n : ℕ) (one two : ℕ → Bool) → ((k : ℕ) → k < n → one k ≡ two k) → greatest_below n one ≡ greatest_below n two
unfolding greatest_below
greatest_below-same zero one two same = refl
greatest_below-same (suc n) one two same = rw (same n (omega arith), greatest_below-same n one two (λ k h. same k (omega arith))) refl
