-- The laws of rows of bits
use Rattle.std.proofs.Common.{◌≡◌, ℕ, ◌+◌, ◌*◌, ◌/◌, ◌^◌, ◌<◌, ◌≤◌, ◌||◌, ◌&&◌, not, Bool, true, false, eqb, List, length, take, drop, ◌++◌, replicate, Option, Some, None, refl, sym, ap, ap₂, ◌∙◌, inl, inr, arith, zero-add}
use Rattle.std.proofs.Math.Seq.{take-append_seam}
use Rattle.std.proofs.lemmas.Bool.{cases_lt, ne_eqb, and_parts, both_ways}
use Rattle.std.proofs.lemmas.List.{ext_get_or, get_or_past, get_or-replicate, length-replicate}
use Rattle.std.proofs.lemmas.List.FromFn.{get_or-map-range_with_len, length-map-range_with_len}
use Rattle.hg_model.specs.Places.{table}
use Rattle.hg_model.proofs.PlacesLaws.{some_below_from, some_below_none}
use Rattle.hg_bits.specs.Words.{has_bit, bits_of, HoldsBits, IsFirst, NoneFrom, Finds, is_bit_over}
use Rattle.hg_bits.specs.Rows.{is_in, with_place, union_of, is_over, is_subset}
use Rattle.hg_bits.proofs.WordLaws.{has_bit-zeros}

-- tables of truth values

pub is_in-table : (test : ℕ → Bool) (n i : ℕ) → i < n → is_in (table test n) i ≡ test i
is_in-table test n i h = get_or-map-range_with_len test 0 n i i false h (zero-add i)

pub length-table : (test : ℕ → Bool) (n : ℕ) → length (table test n) ≡ n
length-table test n = length-map-range_with_len test 0 n

-- a list that has these truth values is their table
pub is_table : (row : List Bool) (test : ℕ → Bool) (n : ℕ) → length row ≡ n → ((i : ℕ) → i < n → is_in row i ≡ test i) → row ≡ table test n
is_table row test n len matches =
    ext_get_or false row (table test n) (len ∙ sym (length-table test n))
    (λ i h. let inside : i < n = omega (arith, len) in matches i inside ∙ sym (is_in-table test n i inside))

pub table-same : (one two : ℕ → Bool) (n : ℕ) → ((i : ℕ) → i < n → one i ≡ two i) → table one n ≡ table two n
table-same one two n same = is_table (table one n) two n (length-table one n) (λ i h. is_in-table one n i h ∙ same i h)

-- what a row's words tell

pub length-bits : (words : List ℕ) (len : ℕ) → length (bits_of words len) ≡ len
unfolding bits_of
length-bits words len = length-table (has_bit words) len

pub is_in-bits : (words : List ℕ) (len i : ℕ) → i < len → is_in (bits_of words len) i ≡ has_bit words i
unfolding bits_of
is_in-bits words len i h = is_in-table (has_bit words) len i h

-- also past its end
pub is_in-held : (words : List ℕ) (len : ℕ) → HoldsBits words len → (i : ℕ) → is_in (bits_of words len) i ≡ has_bit words i
is_in-held words len held i = elim (cases_lt i len) [
  | inl inside ↦ is_in-bits words len i inside
  | inr past ↦ get_or_past (bits_of words len) i false (omega (arith, length-bits words len)) ∙ sym (held.clear i past)
]

pub ruleset bit_rows = (length-bits, is_in-bits)

-- no place
pub bits_none : (n len : ℕ) → bits_of (replicate n 0) len ≡ replicate len false
unfolding bits_of
bits_none n len =
    let none : List Bool = replicate len false in
    sym (is_table none (has_bit (replicate n 0)) len (length-replicate len false)
    (λ i h. get_or-replicate len i false false h ∙ sym (has_bit-zeros n i)))

pub holds_none : (len : ℕ) → len < 2 ^ 64 → HoldsBits (replicate (len / 64 + 1) 0) len
holds_none len fits = record { fits = fits; long = length-replicate (len / 64 + 1) 0; clear = λ i h. has_bit-zeros (len / 64 + 1) i }

-- one place more

pub bits_with : (old new : List ℕ) (len i : ℕ) → ((k : ℕ) → has_bit new k ≡ (eqb k i || has_bit old k)) → bits_of new len ≡ with_place (bits_of old len) i
unfolding with_place
bits_with old new len i made =
    let len_is = length-bits old len in
    rw len_is (is_table (bits_of new len) (λ k. eqb k i || is_in (bits_of old len) k) len (length-bits new len)
    (λ k h. is_in-bits new len k h ∙ (made k ∙ ap (λ b. eqb k i || b) (sym (is_in-bits old len k h)))))

pub holds_with : (old new : List ℕ) (len i : ℕ) → HoldsBits old len → length new ≡ length old → i < len → ((k : ℕ) → has_bit new k ≡ (eqb k i || has_bit old k)) → HoldsBits new len
holds_with old new len i held same inside made = record {
  fits = held.fits;
  long = same ∙ held.long;
  clear = λ k past. made k ∙ rw (ne_eqb k i (λ e. absurd (omega arith)), held.clear k past) refl;
}

-- the places of another row

pub bits_union : (old others new : List ℕ) (len other_len : ℕ) → HoldsBits others other_len → ((k : ℕ) → has_bit new k ≡ (has_bit old k || has_bit others k)) →
    bits_of new len ≡ union_of (bits_of old len) (bits_of others other_len)
unfolding union_of
bits_union old others new len other_len held joined =
    rw (length-bits old len) (is_table (bits_of new len) (λ k. is_in (bits_of old len) k || is_in (bits_of others other_len) k) len (length-bits new len)
    (λ k h. is_in-bits new len k h ∙ (joined k ∙ ap₂ (λ (a b : Bool). a || b) (sym (is_in-bits old len k h)) (sym (is_in-held others other_len held k)))))

pub holds_union : (old others new : List ℕ) (len other_len : ℕ) → HoldsBits old len → HoldsBits others other_len → other_len ≤ len → length new ≡ length old →
    ((k : ℕ) → has_bit new k ≡ (has_bit old k || has_bit others k)) → HoldsBits new len
holds_union old others new len other_len held other_held shorter same joined = record {
  fits = held.fits;
  long = same ∙ held.long;
  clear = λ k past. joined k ∙ rw (held.clear k past, other_held.clear k (omega arith)) refl;
}

-- what a search finds

over_is : (words others : List ℕ) (len other_len : ℕ) → HoldsBits words len → HoldsBits others other_len → (i : ℕ) →
    is_bit_over words others i ≡ is_over (bits_of words len) (bits_of others other_len) i
over_is words others len other_len held other_held i =
    ap₂ (λ (a b : Bool). a && not b) (sym (is_in-held words len held i)) (sym (is_in-held others other_len other_held i))

pub finds_over : (words others : List ℕ) (len other_len from : ℕ) → HoldsBits words len → HoldsBits others other_len → (found : Option ℕ) →
    Finds (is_bit_over words others) from (64 * length words) found → Finds (is_over (bits_of words len) (bits_of others other_len)) from (length (bits_of words len)) found
finds_over words others len other_len from held other_held None = λ none i le h.
    sym (over_is words others len other_len held other_held i) ∙ none i le (omega (arith, held.long, length-bits words len))
finds_over words others len other_len from held other_held (Some k) = λ found.
    let same = over_is words others len other_len held other_held in
    let first : IsFirst (is_bit_over words others) from k = found.1 in (
      elim (cases_lt k len) [
        | inl inside ↦ omega (arith, length-bits words len)
        | inr past ↦ absurd (both_ways (has_bit words k) (held.clear k past) (and_parts (has_bit words k) (not (has_bit others k)) first.passes).0)
      ],
      record {
        low = first.low;
        passes = sym (same k) ∙ first.passes;
        none_before = λ i le h. sym (same i) ∙ first.none_before i le h;
      },
    )

-- a row is a subset where nothing is over
pub subset_none : (row other : List Bool) → NoneFrom (is_over row other) 0 (length row) → is_subset row other ≡ true
unfolding is_subset
subset_none row other none = ap not (some_below_none (length row) (is_over row other) (λ k h e. absurd (both_ways (is_over row other k) (none k (omega arith) h) e)))

pub subset_some : (row other : List Bool) (k : ℕ) → Finds (is_over row other) 0 (length row) (Some k) → is_subset row other ≡ false
unfolding is_subset
subset_some row other k found = ap not (some_below_from (length row) (is_over row other) k found.0 found.1.passes)

pub ruleset subset_steps = (subset_none, subset_some)

-- words written back where they came from
pub refilled : (n : ℕ) (words old : List ℕ) → length words ≡ n → take n (words ++ drop (length words) old) ≡ words
refilled n words old len = ap (λ k. take k (words ++ drop (length words) old)) (sym len) ∙ take-append_seam words (drop (length words) old)

-- a place of the row lies in one of its words
pub word_inside : (words : List ℕ) (len i : ℕ) → HoldsBits words len → i < len → i / 64 < length words
word_inside words len i held h = omega (arith, held.long)

-- the words of a shorter row are no more
pub words_fewer : (words others : List ℕ) (len other_len : ℕ) → HoldsBits words len → HoldsBits others other_len → other_len ≤ len → length others ≤ length words
words_fewer words others len other_len held other_held le = omega (arith, held.long, other_held.long)
