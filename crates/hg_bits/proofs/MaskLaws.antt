-- The laws of masks
use Rattle.std.proofs.Common.{◌≡◌, ℕ, zero, suc, ◌+◌, ◌*◌, ◌/◌, ◌%◌, ◌^◌, ◌<◌, ◌&&◌, ◌||◌, cond, eqb, false, refl, sym, ap, ◌∙◌, inl, inr, arith, one-add}
use Rattle.std.specs.Prelude.{bit_and, bit_or, count_ones}
use Rattle.std.specs.Int.{Width, bit_at}
use mir.Val.{bits}
use Rattle.std.proofs.Math.Nat.{div-add-mod, mul_comm, mod-eq_of_lt}
use Rattle.std.proofs.lemmas.Bool.{cases_eq}
use Rattle.std.proofs.lemmas.Nat.{ones_cat, pow_pos, mod_below, shr_below}
use Rattle.std.proofs.lemmas.Nat.Bits.{bit_at_cat_low}
use Rattle.hg_model.specs.Places.{count_below, weight_below}
use Rattle.hg_model.proofs.PlacesLaws.{weight_below-same}
use Rattle.hg_bits.specs.Words.{is_set}
use Rattle.hg_bits.specs.Masks.{mask_has}
use Rattle.hg_bits.proofs.WordLaws.{bit_test, is_set-and, is_set-or, is_set-zero, set_in_word}

pub mask_test : (mask m : ℕ) → eqb (bit_and (mask / 2 ^ m) 1) 1 ≡ mask_has mask m
unfolding mask_has
mask_test mask m = bit_test mask m

pub mask_made : (w : Width) (mask m k : ℕ) → m < bits w → mask_has (bit_or mask (1 * 2 ^ m % 2 ^ bits w)) k ≡ (eqb k m || mask_has mask k)
unfolding mask_has
mask_made w mask m k h = set_in_word w mask m k h

-- nobody
pub mask_none : (m : ℕ) → mask_has 0 m ≡ false
unfolding mask_has
mask_none m = is_set-zero m

pub mask_joined : (mask other m : ℕ) → mask_has (bit_or mask other) m ≡ (mask_has mask m || mask_has other m)
unfolding mask_has
mask_joined mask other m = is_set-or mask other m

pub mask_met : (mask other m : ℕ) → mask_has (bit_and mask other) m ≡ (mask_has mask m && mask_has other m)
unfolding mask_has
mask_met mask other m = is_set-and mask other m

pub ruleset mask_steps = (mask_joined, mask_met)

ones_of_bit : (b : ℕ) → b < 2 → count_ones b ≡ cond (eqb b 1) 1 0
unfolding lib.Count.ones
ones_of_bit b h = elim (cases_eq b 1) [
  | inl one ↦ rw one refl
  | inr other ↦ (let none : b ≡ 0 = omega arith in rw none refl)
]

-- the number of ones is the number of members
pub ones_counted : (k mask : ℕ) → mask < 2 ^ k → count_ones mask ≡ count_below k (mask_has mask)
unfolding mask_has weight_below lib.Count.ones
ones_counted zero mask h = (let none : mask ≡ 0 = omega arith in rw none refl)
ones_counted (suc k) mask h =
    let high : ℕ = mask / 2 ^ k in
    let low : ℕ = mask % 2 ^ k in
    let low_fits : low < 2 ^ k = mod_below mask (2 ^ k) (pow_pos k) in
    let whole : high * 2 ^ k + low ≡ mask = rw mul_comm (div-add-mod mask (2 ^ k)) in
    let one_bit : high < 2 = shr_below mask 1 k (rw one-add h) in
    let same : count_below k (is_set low) ≡ count_below k (is_set mask) =
    weight_below-same (λ _. 1) k (is_set low) (is_set mask) (λ j hj.
    ap (λ n. eqb n 1) (sym (bit_at_cat_low high k low j hj) ∙ ap (λ n. bit_at n j) whole)) in
    let before : count_ones low ≡ count_below k (is_set low) = unfold mask_has in ones_counted k low low_fits in
    let last : count_ones high ≡ cond (is_set mask k) 1 0 = ones_of_bit high one_bit ∙ ap (λ n. cond (eqb n 1) 1 0) (sym (mod-eq_of_lt one_bit)) in
    let both : count_ones mask ≡ count_ones high + count_ones low = ap count_ones (sym whole) ∙ ones_cat k high low low_fits in
    omega arith
