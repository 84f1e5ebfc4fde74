-- The laws of bits in words
use Rattle.std.proofs.Common.{◌≡◌, ℕ, ◌+◌, ◌-◌, ◌*◌, ◌/◌, ◌%◌, ◌^◌, ◌<◌, ◌≤◌, ◌||◌, ◌&&◌, not, min, max, Bool, false, eqb, List, length, get_or, set, replicate, Some, None, refl, sym, ap, ap₂, ◌∙◌, inl, inr, arith, eq-eqb, w64}
use Rattle.std.specs.Prelude.{bit_and, bit_or}
use Rattle.std.specs.Int.{Width, bit_at, bit_not, trailing_zeros}
use mir.Val.{bits}
use Rattle.std.proofs.lemmas.Bool.{cases_eq, cases_lt, ne_eqb}
use Rattle.std.proofs.lemmas.List.{get_or-set_same, get_or-set_other, get_or-replicate, get_or_past, length-replicate}
use Rattle.std.proofs.Math.Bool.{or-false}
use Rattle.std.proofs.lemmas.Nat.{shr-shr}
use Rattle.std.proofs.lemmas.Nat.Bits.{bit_at_or, bit_at_and, bit_at_not, bit_at-zero, bit_at-lt, shr_and_one, bit_at_set_same, bit_at_set_other, bit_at_above, bit_at-trailing_zeros}
use Rattle.hg_bits.specs.Words.{is_set, has_bit, is_bit_over, NoneFrom, Finds}

-- the test of the code
pub bit_test : (word i : ℕ) → eqb (bit_and (word / 2 ^ i) 1) 1 ≡ is_set word i
bit_test word i = ap (λ b. eqb b 1) (shr_and_one word i)

pub ruleset bit_tests = (bit_test)

-- bits of two words, as numbers below 2

either_one : (a b : ℕ) → a < 2 → b < 2 → eqb (max a b) 1 ≡ (eqb a 1 || eqb b 1)
either_one a b ha hb = elim (cases_eq a 1) [
  | inl one ↦ (let top : max a b ≡ 1 = omega arith in rw (top, one) refl)
  | inr other ↦ (let none : a ≡ 0 = omega arith in let top : max a b ≡ b = omega arith in rw (top, none) refl)
]

one_over : (a b : ℕ) → a < 2 → b < 2 → eqb (min a (1 - b)) 1 ≡ (eqb a 1 && not (eqb b 1))
one_over a b ha hb = elim (cases_eq a 1) [
  | inl one ↦ elim (cases_eq b 1) [
    | inl both ↦ rw (one, both) refl
    | inr other ↦ (let none : b ≡ 0 = omega arith in rw (one, none) refl)
  ]
  | inr other ↦ (let none : a ≡ 0 = omega arith in let low : min a (1 - b) ≡ 0 = omega arith in rw (low, none) refl)
]

pub is_set-or : (a b i : ℕ) → is_set (bit_or a b) i ≡ (is_set a i || is_set b i)
is_set-or a b i = ap (λ n. eqb n 1) (bit_at_or a b i) ∙ either_one (bit_at a i) (bit_at b i) (bit_at-lt a i) (bit_at-lt b i)

both_one : (a b : ℕ) → a < 2 → b < 2 → eqb (min a b) 1 ≡ (eqb a 1 && eqb b 1)
both_one a b ha hb = elim (cases_eq a 1) [
  | inl one ↦ (let low : min a b ≡ b = omega arith in rw (low, one) refl)
  | inr other ↦ (let none : a ≡ 0 = omega arith in let low : min a b ≡ 0 = omega arith in rw (low, none) refl)
]

pub is_set-and : (a b i : ℕ) → is_set (bit_and a b) i ≡ (is_set a i && is_set b i)
is_set-and a b i = ap (λ n. eqb n 1) (bit_at_and a b i) ∙ both_one (bit_at a i) (bit_at b i) (bit_at-lt a i) (bit_at-lt b i)

pub is_set-over : (a b i : ℕ) → b < 2 ^ 64 → i < 64 → is_set (bit_and a (bit_not w64 b)) i ≡ (is_set a i && not (is_set b i))
is_set-over a b i hb hi =
    ap (λ n. eqb n 1) (bit_at_and a (bit_not w64 b) i ∙ ap (λ n. min (bit_at a i) n) (bit_at_not w64 b i hb hi))
    ∙ one_over (bit_at a i) (bit_at b i) (bit_at-lt a i) (bit_at-lt b i)

pub is_set-zero : (i : ℕ) → is_set 0 i ≡ false
is_set-zero i = ap (λ n. eqb n 1) (bit_at-zero i)

-- bit i of word k
pub has_bit-in_word : (words : List ℕ) (k i : ℕ) → i < 64 → has_bit words (64 * k + i) ≡ is_set (get_or words k 0) i
unfolding has_bit
has_bit-in_word words k i h =
    let word : (64 * k + i) / 64 ≡ k = omega arith in
    let bit : (64 * k + i) % 64 ≡ i = omega arith in
    ap₂ (λ (q r : ℕ). is_set (get_or words q 0) r) word bit

pub has_bit-at : (words : List ℕ) (i : ℕ) → has_bit words i ≡ is_set (get_or words (i / 64) 0) (i % 64)
unfolding has_bit
has_bit-at words i = refl

pub has_bit-past : (words : List ℕ) (i : ℕ) → length words ≤ i / 64 → has_bit words i ≡ false
has_bit-past words i h = has_bit-at words i ∙ (ap (λ word. is_set word (i % 64)) (get_or_past words (i / 64) 0 h) ∙ is_set-zero (i % 64))

pub has_bit-zeros : (n i : ℕ) → has_bit (replicate n 0) i ≡ false
has_bit-zeros n i = elim (cases_lt (i / 64) n) [
  | inl inside ↦ has_bit-at (replicate n 0) i ∙ (ap (λ word. is_set word (i % 64)) (get_or-replicate n (i / 64) 0 0 inside) ∙ is_set-zero (i % 64))
  | inr past ↦ has_bit-past (replicate n 0) i (let len : length (replicate n 0) ≡ n = length-replicate {A = ℕ} n 0 in omega arith)
]

-- one bit made 1

pub set_in_word : (w : Width) (word i k : ℕ) → i < bits w → is_set (bit_or word (1 * 2 ^ i % 2 ^ bits w)) k ≡ (eqb k i || is_set word k)
set_in_word w word i k h = elim (cases_eq k i) [
  | inl same ↦ rw (same, eq-eqb i i refl) (ap (λ n. eqb n 1) (bit_at_set_same w word i h))
  | inr other ↦ rw (ne_eqb k i other) (ap (λ n. eqb n 1) (bit_at_set_other w word i h k other))
]

pub bit_made : (old : List ℕ) (i k : ℕ) → i / 64 < length old →
    has_bit (set old (i / 64) (bit_or (get_or old (i / 64) 0) (1 * 2 ^ (i % 64) % 2 ^ 64))) k ≡ (eqb k i || has_bit old k)
bit_made old i k h =
    let word : ℕ = bit_or (get_or old (i / 64) 0) (1 * 2 ^ (i % 64) % 2 ^ 64) in
    has_bit-at (set old (i / 64) word) k
    ∙ (elim (cases_eq (k / 64) (i / 64)) [
      | inl here ↦
          (let same : eqb (k % 64) (i % 64) ≡ eqb k i = (elim (cases_eq k i) [
            | inl one ↦ rw one (eq-eqb (i % 64) (i % 64) refl ∙ sym (eq-eqb i i refl))
            | inr two ↦ ne_eqb (k % 64) (i % 64) (λ e. two (omega arith)) ∙ sym (ne_eqb k i two)
          ]) in
          ap (λ w. is_set w (k % 64)) (ap (λ j. get_or (set old (i / 64) word) j 0) here ∙ get_or-set_same old (i / 64) word 0 h)
          ∙ (set_in_word w64 (get_or old (i / 64) 0) (i % 64) (k % 64) (omega arith)
          ∙ (ap₂ (λ (a b : Bool). a || b) same (ap (λ j. is_set (get_or old j 0) (k % 64)) (sym here)))))
      | inr apart ↦
          ap (λ w. is_set w (k % 64)) (get_or-set_other old (i / 64) (k / 64) word 0 apart)
          ∙ sym (ap (λ b. b || is_set (get_or old (k / 64) 0) (k % 64)) (ne_eqb k i (λ e. apart (ap (λ (j : ℕ). j / 64) e))))
    ]
    ∙ ap (λ b. eqb k i || b) (sym (has_bit-at old k)))

-- words joined one by one
pub bits_joined : (old others new : List ℕ) → ((k : ℕ) → k < length others → get_or new k 0 ≡ bit_or (get_or old k 0) (get_or others k 0)) →
    ((k : ℕ) → length others ≤ k → get_or new k 0 ≡ get_or old k 0) → (k : ℕ) → has_bit new k ≡ (has_bit old k || has_bit others k)
bits_joined old others new below past k =
    has_bit-at new k
    ∙ (elim (cases_lt (k / 64) (length others)) [
      | inl inside ↦ ap (λ w. is_set w (k % 64)) (below (k / 64) inside)
          ∙ (is_set-or (get_or old (k / 64) 0) (get_or others (k / 64) 0) (k % 64)
          ∙ ap₂ (λ (a b : Bool). a || b) (sym (has_bit-at old k)) (sym (has_bit-at others k)))
      | inr outside ↦ ap (λ w. is_set w (k % 64)) (past (k / 64) outside)
          ∙ (sym (has_bit-at old k) ∙ rw (has_bit-past others k outside) (sym (or-false (has_bit old k))))
    ])

-- the first bit of a word

bit_shifted : (word low j : ℕ) → bit_at (word / 2 ^ low) j ≡ bit_at word (low + j)
bit_shifted word low j = ap (λ x. x % 2) (shr-shr word low j)

pub no_bit_left : (word low : ℕ) → word / 2 ^ low ≡ 0 → Finds (is_set word) low 64 None
no_bit_left word low none i le h =
    let at : low + (i - low) ≡ i = omega arith in
    ap (λ k. is_set word k) (sym at)
    ∙ (ap (λ n. eqb n 1) (sym (bit_shifted word low (i - low)))
    ∙ (ap (λ w. is_set w (i - low)) none ∙ is_set-zero (i - low)))

pub first_bit_left : (word low : ℕ) → word < 2 ^ 64 → 0 < word / 2 ^ low → word / 2 ^ low < 2 ^ 64 → Finds (is_set word) low 64 (Some (low + trailing_zeros w64 (word / 2 ^ low)))
first_bit_left word low h some fits =
    let left : ℕ = word / 2 ^ low in
    let first = bit_at-trailing_zeros w64 left some fits in
    let tz : ℕ = trailing_zeros w64 left in
    let one : bit_at word (low + tz) ≡ 1 = sym (bit_shifted word low tz) ∙ first.1 in (
      elim (cases_lt (low + tz) 64) [
        | inl inside ↦ inside
        | inr past ↦ absurd (let none = bit_at_above word 64 (low + tz) h past in omega arith)
      ],
      record {
        low = omega arith;
        passes = ap (λ n. eqb n 1) one;
        none_before = λ i le before.
            let at : low + (i - low) ≡ i = omega arith in
            let none : bit_at left (i - low) ≡ 0 = first.2 (i - low) (omega arith) in
            ap (λ k. is_set word k) (sym at) ∙ ap (λ n. eqb n 1) (sym (bit_shifted word low (i - low)) ∙ none);
      },
    )

-- a search word by word

module _ (words others : List ℕ) (from k low word : ℕ) (before : NoneFrom (is_bit_over words others) from (64 * k))
    (matches : (i : ℕ) → i < 64 → is_set word i ≡ is_bit_over words others (64 * k + i))
    (first : k ≡ from / 64 → 64 * k + low ≡ from) (later : from / 64 < k → low ≡ 0) (begun : from / 64 ≤ k) where
  -- a place of the word from `from` on stands at its `low` or past it
  in_reach : (i : ℕ) → from ≤ 64 * k + i → low ≤ i
  in_reach i le = elim (cases_lt (from / 64) k) [
    | inl past ↦ omega (arith, later past)
    | inr here ↦ omega (arith, first (omega arith))
  ]

  reach_in : (i : ℕ) → low ≤ i → from ≤ 64 * k + i
  reach_in i le = elim (cases_lt (from / 64) k) [
    | inl past ↦ omega arith
    | inr here ↦ omega (arith, first (omega arith))
  ]

  not_before : (i : ℕ) → from ≤ i → (j : ℕ) → i ≡ 64 * k + j → j < 64 → is_set word j ≡ false → is_bit_over words others i ≡ false
  not_before i le j at h none = ap (is_bit_over words others) at ∙ (sym (matches j h) ∙ none)

  pub none_in_word : Finds (is_set word) low 64 None → NoneFrom (is_bit_over words others) from (64 * (k + 1))
  none_in_word none i le h = elim (cases_lt i (64 * k)) [
    | inl earlier ↦ before i le earlier
    | inr here ↦ (let at : i ≡ 64 * k + (i - 64 * k) = omega arith in
        not_before i le (i - 64 * k) at (omega arith) (none (i - 64 * k) (in_reach (i - 64 * k) (omega arith)) (omega arith)))
  ]

  pub first_in_words : (n i : ℕ) → k < n → Finds (is_set word) low 64 (Some i) → Finds (is_bit_over words others) from (64 * n) (Some (64 * k + i))
  first_in_words n i inside found =
      let within : i < 64 = found.0 in (
        omega arith,
        record {
          low = reach_in i found.1.low;
          passes = sym (matches i within) ∙ found.1.passes;
          none_before = λ j le h. elim (cases_lt j (64 * k)) [
            | inl earlier ↦ before j le earlier
            | inr here ↦ (let at : j ≡ 64 * k + (j - 64 * k) = omega arith in
                not_before j le (j - 64 * k) at (omega arith) (found.1.none_before (j - 64 * k) (in_reach (j - 64 * k) (omega arith)) (omega arith)))
          ];
        },
      )
