-- What sets of members weigh: told by how many they are where all have one stake, and lane by lane where not
use Rattle.std.proofs.Common.{◌≡◌, ◌∙◌, ◌+◌, ◌*◌, ◌^◌, ◌<◌, ◌≤◌, ◌&&◌, ℕ, Bool, true, false, cond, nat_lt, ap, sym, arith, add-one}
use Rattle.std.specs.Prelude.{bit_and, count_ones}
use Rattle.std.specs.Int.{from_bool}
use Rattle.std.proofs.Math.Bool.{and-true, and-false}
use Rattle.std.proofs.Math.Nat.{mul_comm, mul-le-mul_left}
use Rattle.std.proofs.lemmas.Bool.{lt-ltb, le-ltb}
use Rattle.std.proofs.lemmas.Nat.{and_le_l}
use Rattle.hg_model.specs.Places.{count_below, weight_below}
use Rattle.hg_model.specs.Stakes.{Stakes, member_count, stake_where, total, AllWeigh}
use Rattle.hg_model.proofs.PlacesLaws.{weight_below-same, weight_below-longer, weight_below_zero}
use Rattle.hg_model.proofs.StakeLaws.{stake_where-even, stake_where-total}
use Rattle.hg_bits.specs.Masks.{mask_has}
use Rattle.hg_bits.proofs.MaskLaws.{mask_met, ones_counted}

-- where all have one stake

pub even_weighs : (n : Stakes) (each many : ℕ) (test : ℕ → Bool) → AllWeigh n each → many ≡ count_below (member_count n) test → many * each ≡ stake_where n test
even_weighs n each many test even counted =
    ap (λ k. k * each) counted ∙ (mul_comm (count_below (member_count n) test) each ∙ sym (stake_where-even n each test even))

-- no members weigh more than 2^39 where all do not
pub weighs_low : (n : Stakes) (sum : ℕ) (test : ℕ → Bool) → sum ≡ total n → sum ≤ 2 ^ 39 → stake_where n test ≤ 2 ^ 39
weighs_low n sum test is low = omega (arith, stake_where-total n test)

-- the ones of a set that are members
pub ones_within : (mask members len : ℕ) → mask < 2 ^ 128 → len ≤ 128 → ((m : ℕ) → mask_has members m ≡ nat_lt m len) →
    count_ones (bit_and mask members) ≡ count_below len (mask_has mask)
ones_within mask members len fits few first =
    let both : ℕ = bit_and mask members in
    let low : both < 2 ^ 128 = omega (arith, and_le_l mask members) in
    ones_counted 128 both low
    ∙ (weight_below-longer (λ _. 1) len 128 (mask_has both) few (λ m past below.
    mask_met mask members m ∙ (ap (λ b. mask_has mask m && b) (first m ∙ le-ltb m len past) ∙ and-false (mask_has mask m)))
    ∙ weight_below-same (λ _. 1) len (mask_has both) (mask_has mask) (λ m inside.
    mask_met mask members m ∙ (ap (λ b. mask_has mask m && b) (first m ∙ lt-ltb m len inside) ∙ and-true (mask_has mask m))))

-- lane by lane, without a branch

by_bit : (weight : ℕ) (b : Bool) → cond b weight 0 ≡ weight * from_bool b
by_bit weight true = omega arith
by_bit weight false = omega arith

pub lane_low : (weight : ℕ) (b : Bool) → weight * from_bool b ≤ weight
lane_low weight true = omega arith
lane_low weight false = omega arith

pub lane_next : (weight : ℕ → ℕ) (n : ℕ) (test : ℕ → Bool) → weight_below weight (n + 1) test ≡ weight_below weight n test + weight n * from_bool (test n)
unfolding weight_below
lane_next weight n test = rw (add-one n) (ap (λ lane. weight_below weight n test + lane) (by_bit (weight n) (test n)))

pub ruleset lane_steps = (weight_below_zero, lane_next, lane_low)
