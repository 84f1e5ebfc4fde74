-- Rows of numbers in blocks and a tail
use Rattle.std.proofs.Common.{ℕ, zero, suc, ◌≡◌, ◌≢◌, ◌⊎◌, inl, inr, ◌≤◌, ◌<◌, ◌+◌, ◌-◌, ◌*◌, ◌/◌, ◌%◌, min, List, [], ◌∷◌, ◌++◌, length, take, drop, get_or, refl, sym, ap, ap₂, ◌∙◌, arith}
use Rattle.std.proofs.Math.Nat.{mul-le-mul_right, le_of_mul-le-mul_right}
use Rattle.std.proofs.lemmas.Bool.{cases_lt}
use Rattle.std.proofs.lemmas.List.{length-append, length-take, length-take-le, length-drop, take-append-drop, take-take, drop-take, get_or-take, get_or-drop}
use Rattle.std.specs.List.{flat_map, AllByRecursion, AllZip}
use Rattle.std.specs.declared.sync.Arc.{Arc}
use Rattle.std.specs.Global.{Vec}
use Rattle.hg_blocks.specs.Rows.{HasRows, HoldsRows, joined_rows, numbers_of}
use Rattle.hg_blocks.proofs.Flat.{length_flat, take_flat, list_flat, rest_flat}

nil : {T : Type 0} (xs : List T) → length xs ≤ 0 → xs ≡ []
nil [] h = refl
nil (x ∷ xs) h = absurd (omega arith)

-- a tail that is not full has a place for one row more
pub room_left : (w j len : ℕ) → len ≡ j * w → j ≤ 64 → (len ≢ 64 * w) ⊎ (64 * w ≤ 0) → len + w ≤ 64 * w
room_left w j len is few unfilled = elim (cases_lt j 64) [
  | inl less ↦ (let more = mul-le-mul_right {m = j + 1} {n = 64} w (omega arith) in omega arith)
  | inr last ↦ elim unfilled [
    | inl other ↦ (let all : j ≡ 64 = omega arith in absurd (other (is ∙ ap (λ k. k * w) all)))
    | inr none ↦ (let all : j ≡ 64 = omega arith in let same : len ≡ 64 * w = is ∙ ap (λ k. k * w) all in omega arith)
  ]
]

-- so many rows, of which a tail has at most 64 unless they have no numbers
pub capped : (w k : ℕ) → k * w ≤ 64 * w → k * w ≡ min 64 k * w
capped w k le = elim (cases_lt 0 w) [
  | inl some ↦ (let few = le_of_mul-le-mul_right {m = k} {n = 64} {k = w} le some in let same : k ≡ min 64 k = omega arith in ap (λ n. n * w) same)
  | inr none ↦ (let gone : w ≡ 0 = omega arith in rw gone (omega arith))
]

module _ {T A : Type 0} (w : ℕ) where
  pub all_push : (sealed : List (Arc (Vec T) A)) (block : Arc (Vec T) A) → AllByRecursion (HasRows w) sealed → HasRows w block → AllByRecursion (HasRows w) (sealed ++ block ∷ [])
  all_push [] block full one = (one, tt)
  all_push (b ∷ sealed) block full one = (full.0, all_push sealed block full.1 one)

  all_take : (sealed : List (Arc (Vec T) A)) (n : ℕ) → AllByRecursion (HasRows w) sealed → AllByRecursion (HasRows w) (take n sealed)
  all_take sealed zero full = tt
  all_take [] (suc n) full = tt
  all_take (b ∷ sealed) (suc n) full = (full.0, all_take sealed n full.1)

  -- shared blocks have the same numbers
  all_same : (ones others : List (Arc (Vec T) A)) → AllZip (λ (one other : Arc (Vec T) A). other.value ≡ one.value) ones others → AllByRecursion (HasRows w) ones → AllByRecursion (HasRows w) others
  all_same [] [] same full = tt
  all_same [] (other ∷ others) same full = elim same [ ]
  all_same (one ∷ ones) [] same full = elim same [ ]
  all_same (one ∷ ones) (other ∷ others) same full = (ap (λ (v : Vec T). length v.items) same.0 ∙ full.0, all_same ones others same.1 full.1)

  same_numbers : (ones others : List (Arc (Vec T) A)) → AllZip (λ (one other : Arc (Vec T) A). other.value ≡ one.value) ones others → flat_map numbers_of others ≡ flat_map numbers_of ones
  same_numbers [] [] same = refl
  same_numbers [] (other ∷ others) same = elim same [ ]
  same_numbers (one ∷ ones) [] same = elim same [ ]
  same_numbers (one ∷ ones) (other ∷ others) same = ap₂ (λ xs ys. xs ++ ys) (ap (λ (v : Vec T). v.items) same.0) (same_numbers ones others same.1)

  module _ (sealed : List (Arc (Vec T) A)) (tail : List T) (full : AllByRecursion (HasRows w) sealed) where
    pub block_at : (n : ℕ) (e : Arc (Vec T) A) → n < length sealed → take (64 * w) (drop (64 * w * n) (joined_rows sealed tail)) ≡ numbers_of (get_or sealed n e)
    block_at n e lt = list_flat numbers_of (64 * w) sealed tail n e full lt

    pub tail_at : (n : ℕ) → length tail ≤ 64 * w → length sealed ≤ n → (0 < w → n ≤ length sealed) → tail ≡ take (64 * w) (drop (64 * w * n) (joined_rows sealed tail))
    tail_at n few ge place = elim (cases_lt 0 w) [
      | inl some ↦ (
          let last : n ≡ length sealed = (let le = place some in omega arith) in
          sym (ap (λ k. take (64 * w) (drop (64 * w * k) (joined_rows sealed tail))) last ∙ rest_flat numbers_of (64 * w) sealed tail full few))
      | inr none ↦ (
          let rest = drop (64 * w * n) (joined_rows sealed tail) in
          nil tail (omega arith) ∙ sym (nil (take (64 * w) rest) (omega (arith, length-take (64 * w) rest))))
    ]

    length_rows : length (joined_rows sealed tail) ≡ 64 * w * length sealed + length tail
    length_rows = length-append (flat_map numbers_of sealed) tail ∙ ap (λ n. n + length tail) (length_flat numbers_of (64 * w) sealed full)

    module _ (j : ℕ) (few : j ≤ 64) (whole : length tail ≡ j * w) where
      pub few_numbers : length tail ≤ 64 * w
      few_numbers = (let le = mul-le-mul_right {m = j} {n = 64} w few in omega arith)

      -- so many rows are there
      rows_within : (k : ℕ) → 0 < w → k * w ≤ length (joined_rows sealed tail) → k ≤ 64 * length sealed + j
      rows_within k some le = le_of_mul-le-mul_right {m = k} {n = 64 * length sealed + j} {k = w} (omega (arith, length_rows)) some

      module _ (x : ℕ) (within : x * w + w ≤ length (joined_rows sealed tail)) where
        pub read_within : 0 < w → x / 64 ≤ length sealed
        read_within some = (let le = rows_within (x + 1) some (omega arith) in omega arith)

        place : 64 * w * (x / 64) + x % 64 * w ≡ x * w
        place = (let sum : 64 * (x / 64) + x % 64 ≡ x = omega arith in (let all = ap (λ k. k * w) sum in omega arith))

        pub read_below : x % 64 * w + w ≤ length (take (64 * w) (drop (64 * w * (x / 64)) (joined_rows sealed tail)))
        read_below = (
            let all = joined_rows sealed tail in
            let more = mul-le-mul_right {m = x % 64 + 1} {n = 64} w (omega arith) in
            omega (arith, place, length-take (64 * w) (drop (64 * w * (x / 64)) all), length-drop (64 * w * (x / 64)) all))

        pub read_row : (b : ℕ) (d : T) → b < w → get_or (take w (drop (x % 64 * w) (take (64 * w) (drop (64 * w * (x / 64)) (joined_rows sealed tail))))) b d ≡ get_or (joined_rows sealed tail) (x * w + b) d
        read_row b d lt =
            let all = joined_rows sealed tail in
            let more = mul-le-mul_right {m = x % 64 + 1} {n = 64} w (omega arith) in
            let sum : 64 * w * (x / 64) + (x % 64 * w + b) ≡ x * w + b = omega (arith, place) in
            get_or-take w (drop (x % 64 * w) (take (64 * w) (drop (64 * w * (x / 64)) all))) b d lt
            ∙ (get_or-drop (x % 64 * w) (take (64 * w) (drop (64 * w * (x / 64)) all)) b d
            ∙ (get_or-take (64 * w) (drop (64 * w * (x / 64)) all) (x % 64 * w + b) d (omega arith)
            ∙ (get_or-drop (64 * w * (x / 64)) all (x % 64 * w + b) d
            ∙ ap (λ n. get_or all n d) sum)))

        pub length_row : length (take w (drop (x % 64 * w) (take (64 * w) (drop (64 * w * (x / 64)) (joined_rows sealed tail))))) ≡ w
        length_row =
            let part = take (64 * w) (drop (64 * w * (x / 64)) (joined_rows sealed tail)) in
            omega (arith, read_below, length-take w (drop (x % 64 * w) part), length-drop (x % 64 * w) part)

      module _ (len : ℕ) (within : len * w ≤ length (joined_rows sealed tail)) where
        count : ℕ
        count = min ((len - 1) / 64) (length sealed)

        -- what is not in whole blocks
        pub open_few : (len - 64 * min ((len - 1) / 64) (length sealed)) * w ≤ 64 * w
        open_few = elim (cases_lt 0 w) [
          | inl some ↦ (let le = rows_within len some within in mul-le-mul_right {m = len - 64 * min ((len - 1) / 64) (length sealed)} {n = 64} w (omega arith))
          | inr none ↦ (let gone : w ≡ 0 = omega arith in rw gone (omega arith))
        ]

        split : 64 * w * min ((len - 1) / 64) (length sealed) + (len - 64 * min ((len - 1) / 64) (length sealed)) * w ≡ len * w
        split = (let sum : 64 * min ((len - 1) / 64) (length sealed) + (len - 64 * min ((len - 1) / 64) (length sealed)) ≡ len = omega arith in (let all = ap (λ k. k * w) sum in omega arith))

        pub open_within : (len - 64 * min ((len - 1) / 64) (length sealed)) * w ≤ length (take (64 * w) (drop (64 * w * min ((len - 1) / 64) (length sealed)) (joined_rows sealed tail)))
        open_within =
            let n = 64 * w * min ((len - 1) / 64) (length sealed) in
            omega (arith, open_few, split, length-take (64 * w) (drop n (joined_rows sealed tail)), length-drop n (joined_rows sealed tail))

        -- the first blocks, each shared, and the first rows of the next one
        pub first_numbers : (shared : List (Arc (Vec T) A)) → AllZip (λ (one other : Arc (Vec T) A). other.value ≡ one.value) (take (min ((len - 1) / 64) (length sealed)) sealed) shared →
            joined_rows shared (take ((len - 64 * min ((len - 1) / 64) (length sealed)) * w) (take (64 * w) (drop (64 * w * min ((len - 1) / 64) (length sealed)) (joined_rows sealed tail)))) ≡ take (len * w) (joined_rows sealed tail)
        first_numbers shared same =
            let c = min ((len - 1) / 64) (length sealed) in
            let all = joined_rows sealed tail in
            let left = 64 * w * c in
            let right = (len - 64 * c) * w in
            ap₂ (λ xs ys. xs ++ ys)
            (same_numbers _ shared same ∙ (take_flat numbers_of (64 * w) sealed tail c full (omega arith) ∙ sym (take-take left (left + right) all (omega arith))))
            (take-take right (64 * w) (drop left all) open_few ∙ sym (drop-take left right all))
            ∙ (take-append-drop left (take (left + right) all) ∙ ap (λ n. take n all) split)

        pub first_holds : (shared : List (Arc (Vec T) A)) → AllZip (λ (one other : Arc (Vec T) A). other.value ≡ one.value) (take (min ((len - 1) / 64) (length sealed)) sealed) shared →
            HoldsRows w shared (take ((len - 64 * min ((len - 1) / 64) (length sealed)) * w) (take (64 * w) (drop (64 * w * min ((len - 1) / 64) (length sealed)) (joined_rows sealed tail))))
        first_holds shared same =
            let c = min ((len - 1) / 64) (length sealed) in
            let part = take (64 * w) (drop (64 * w * c) (joined_rows sealed tail)) in
            record {
              full = all_same _ shared same (all_take sealed c full);
              rows = min 64 (len - 64 * c);
              few = omega arith;
              whole = length-take-le ((len - 64 * c) * w) part open_within ∙ capped w (len - 64 * c) open_few;
            }
