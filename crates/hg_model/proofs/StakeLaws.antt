-- The laws of stakes: equal stakes count, no members weigh more than all, and what makes more than two thirds
use Rattle.std.proofs.Common.{◌≡◌, ℕ, zero, suc, ◌+◌, ◌*◌, ◌/◌, ◌^◌, ◌<◌, ◌≤◌, Bool, true, false, cond, ◌&&◌, nat_le, List, [], ◌∷◌, length, refl, ap, ap₂, ◌∙◌, inl, inr, arith}
use Rattle.std.proofs.Math.Nat.{mul-add, add-mul}
use Rattle.std.proofs.lemmas.List.{get_or_past}
use Rattle.std.proofs.lemmas.List.Sums.{sum_by-cons}
use Rattle.std.proofs.lemmas.Bool.{cases_lt, ltb-true, lt-ltb, leb-true, le-leb}
use Rattle.hg_model.specs.Places.{weight_below, count_below, list_below}
use Rattle.hg_model.specs.Among.{weight_among}
use Rattle.hg_model.specs.Stakes.{Stakes, member_count, stake_of, stake_where, total, AllWeigh}
use Rattle.hg_model.specs.Seeing.{is_supermajority}
use Rattle.hg_model.proofs.PlacesLaws.{weight_below-all, total-all, count_below-all}
use Rattle.hg_model.proofs.WeightLaws.{weight_below_beside}
use Rattle.hg_model.proofs.ListLaws.{sum_by-list_below}
use Rattle.hg_model.proofs.ReachLaws.{bool_iff}

-- Equal weights

one_more : (sum count each weight : ℕ) (b : Bool) → sum ≡ each * count → (b ≡ true → weight ≡ each) → sum + cond b weight 0 ≡ each * (count + cond b 1 0)
one_more sum count each weight true before same = omega (arith, before, same refl, mul-add each count 1)
one_more sum count each weight false before same = omega (arith, before, mul-add each count 0)

-- where all that pass weigh the same, they weigh that as often as there are such
pub weight_below-even : (weight : ℕ → ℕ) (each n : ℕ) (test : ℕ → Bool) → ((k : ℕ) → k < n → test k ≡ true → weight k ≡ each) →
    weight_below weight n test ≡ each * count_below n test
unfolding weight_below
weight_below-even weight each zero test same = omega arith
weight_below-even weight each (suc n) test same =
    one_more (weight_below weight n test) (count_below n test) each (weight n) (test n)
    (weight_below-even weight each n test (λ k below passes. same k (omega arith) passes))
    (same n (omega arith))

pub stake_where-even : (n : Stakes) (each : ℕ) (test : ℕ → Bool) → AllWeigh n each → stake_where n test ≡ each * count_below (member_count n) test
stake_where-even n each test even = weight_below-even (stake_of n) each (member_count n) test (λ m member passes. even m member)

pub total-even : (n : Stakes) (each : ℕ) → AllWeigh n each → total n ≡ each * member_count n
total-even n each even = total-all n ∙ (stake_where-even n each (λ _. true) even ∙ ap (λ count. each * count) (count_below-all (member_count n)))

-- Bounds

most_more : (sum count most weight : ℕ) (b : Bool) → sum ≤ most * count → weight ≤ most → sum + cond b weight 0 ≤ most * (count + cond b 1 0)
most_more sum count most weight true before low = omega (arith, before, low, mul-add most count 1)
most_more sum count most weight false before low = omega (arith, before, mul-add most count 0)

-- where none weighs more than `most`, they weigh at most that as often as there are such
pub weight_below-most : (weight : ℕ → ℕ) (most n : ℕ) (test : ℕ → Bool) → ((k : ℕ) → k < n → weight k ≤ most) →
    weight_below weight n test ≤ most * count_below n test
unfolding weight_below
weight_below-most weight most zero test low = omega arith
weight_below-most weight most (suc n) test low =
    most_more (weight_below weight n test) (count_below n test) most (weight n) (test n)
    (weight_below-most weight most n test (λ k below. low k (omega arith)))
    (low n (omega arith))

-- no members weigh more than all
pub stake_where-total : (n : Stakes) (test : ℕ → Bool) → stake_where n test ≤ total n
stake_where-total n test = omega (arith, total-all n, weight_below-all (stake_of n) (member_count n) test)

-- nor does one
pub stake_of-total : (n : Stakes) (m : ℕ) → stake_of n m ≤ total n
stake_of-total n m = elim (cases_lt m (member_count n)) [
  | inl member ↦ omega (arith, total-all n, weight_below_beside (stake_of n) (member_count n) (λ _. true) m member refl)
  | inr past ↦ omega (arith, get_or_past n m 0 past)
]

-- 128 members of less than 2^32 each
pub total-low : (n : Stakes) → member_count n ≤ 128 → ((m : ℕ) → m < member_count n → stake_of n m < 2 ^ 32) → total n ≤ 2 ^ 39
total-low n few low =
    let most : total n ≤ 2 ^ 32 * member_count n =
    omega (arith, total-all n, weight_below-most (stake_of n) (2 ^ 32) (member_count n) (λ _. true) (λ m member. omega (arith, low m member)), count_below-all (member_count n)) in
    omega (arith, most, few)

-- who weighs at least 1 adds to all
pub total-some : (n : Stakes) (m : ℕ) → 1 ≤ stake_of n m → 0 < total n
total-some n m some = omega (arith, some, stake_of-total n m)

-- Two thirds

-- more than two thirds are a third of twice all, and one more
pub least_supermajority : (all weight : ℕ) → is_supermajority all weight ≡ nat_le (2 * all / 3 + 1) weight
least_supermajority all weight = bool_iff (is_supermajority all weight) (nat_le (2 * all / 3 + 1) weight)
    (λ h. (let more : 2 * all < 3 * weight = ltb-true (2 * all) (3 * weight) h in le-leb (2 * all / 3 + 1) weight (omega arith)))
    (λ h. (let least : 2 * all / 3 + 1 ≤ weight = leb-true (2 * all / 3 + 1) weight h in lt-ltb (2 * all) (3 * weight) (omega arith)))

-- Places of a list

both_pass : (a b : Bool) (weight : ℕ) → cond a (cond b weight 0) 0 ≡ cond (a && b) weight 0
both_pass true b weight = refl
both_pass false b weight = refl

-- the places below n that pass one test weigh by another what those weigh that pass both
pub weight_among-list_below : (weight : ℕ → ℕ) (passes : ℕ → Bool) (n : ℕ) (test : ℕ → Bool) →
    weight_among weight passes (list_below (λ k. k) n test) ≡ weight_below weight n (λ k. test k && passes k)
unfolding weight_below
weight_among-list_below weight passes n test = sum_by-list_below (λ k. cond (passes k) (weight k) 0) (λ k. k) n test ∙ by_both n
  where
    by_both : (m : ℕ) → weight_below (λ k. cond (passes k) (weight k) 0) m test ≡ weight_below weight m (λ k. test k && passes k)
    by_both zero = refl
    by_both (suc m) = ap₂ (λ (a b : ℕ). a + b) (by_both m) (both_pass (test m) (passes m) (weight m))

-- places of which none weighs more than `most` weigh at most that as often as they are
pub weight_among-most : (weight : ℕ → ℕ) (passes : ℕ → Bool) (most : ℕ) (places : List ℕ) → ((k : ℕ) → weight k ≤ most) →
    weight_among weight passes places ≤ length places * most
weight_among-most weight passes most [] low = omega arith
weight_among-most weight passes most (p ∷ ps) low =
    omega (arith, weight_among-most weight passes most ps low, sum_by-cons (λ k. cond (passes k) (weight k) 0) p ps, alone (passes p), add-mul 1 (length ps) most, times)
  where
    times : length (p ∷ ps) * most ≡ (1 + length ps) * most
    times = ap (λ k. k * most) (omega arith)

    alone : (b : Bool) → cond b (weight p) 0 ≤ most
    alone true = low p
    alone false = omega arith
