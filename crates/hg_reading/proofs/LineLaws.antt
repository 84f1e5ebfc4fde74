-- The first line of bytes, and those that follow it.
use Rattle.std.proofs.Common.{◌≡◌, ℕ, Bool, ◌+◌, ◌<◌, ◌≤◌, nat_lt, List, [], ◌∷◌, length, take, drop, Some, None, refl, ap, ◌∙◌, arith, inl, inr}
use Rattle.std.proofs.lemmas.Bool.{cases_Bool, ltb-true, ltb-false, ne_eqb}
use Rattle.std.proofs.lemmas.List.Splits.{length-slice_split, slice_split_first, slice_split_none}
use Rattle.std.proofs.lemmas.List.Sums.{fails_before_first}
use Rattle.std.specs.List.{after_first, before_first, position, position_or_len, slice_split}
use Rattle.std.specs.Str.Lines.{lines, lines_of_parts, strip_carriage_return}
use Rattle.hg_script.specs.Script.{is_line_feed}

-- where a byte was found, its place is the number of bytes before it
pub found_first : (p : ℕ → Bool) (bytes : List ℕ) (i : ℕ) → position p bytes ≡ Some i → (position_or_len p bytes ≡ i) × (position_or_len p bytes < length bytes)
found_first p bytes i found =
    let n = position_or_len p bytes in
    elim (cases_Bool (nat_lt n (length bytes))) [
      | inl within ↦ let same : Some n ≡ Some i = rw within at found in (cc, ltb-true n (length bytes) within)
      | inr past ↦ absurd (let none : None ≡ Some i = rw past at found in cc)
    ]

-- a part before others is a line
line_before : (line : List ℕ) (parts : List (List ℕ)) → 0 < length parts → lines_of_parts (line ∷ parts) ≡ strip_carriage_return line ∷ lines_of_parts parts
line_before line [] some = absurd (omega arith)
line_before line (part ∷ parts) some = refl

pub lines_at : (bytes : List ℕ) (i : ℕ) → position is_line_feed bytes ≡ Some i
    → lines bytes ≡ strip_carriage_return (take i bytes) ∷ lines (drop (i + 1) bytes)
lines_at bytes i found =
    let (same, within) = found_first is_line_feed bytes i found in
    let parted = slice_split_first is_line_feed bytes 0 within in
    let some : 0 < length (slice_split is_line_feed (after_first is_line_feed bytes)) =
    omega (arith, length-slice_split is_line_feed (after_first is_line_feed bytes)) in
    rw (← same) (ap lines_of_parts parted ∙ line_before (before_first is_line_feed bytes) (slice_split is_line_feed (after_first is_line_feed bytes)) some)

pub none_before : (p : ℕ → Bool) (bytes : List ℕ) → position p bytes ≡ None → length bytes ≤ position_or_len p bytes
none_before p bytes none =
    let n = position_or_len p bytes in
    elim (cases_Bool (nat_lt n (length bytes))) [
      | inl within ↦ absurd (let some : Some n ≡ None = rw within at none in cc)
      | inr past ↦ ltb-false n (length bytes) past
    ]

only_line : (line : List ℕ) → 0 < length line → lines_of_parts (line ∷ []) ≡ line ∷ []
only_line line some = rw (ne_eqb (length line) 0 (λ none. omega arith))

pub lines_last : (bytes : List ℕ) → position is_line_feed bytes ≡ None → 0 < length bytes → lines bytes ≡ bytes ∷ []
lines_last bytes none some =
    let all = none_before is_line_feed bytes none in
    let whole = slice_split_none is_line_feed bytes (λ k d below. fails_before_first is_line_feed bytes k d (omega arith)) in
    ap lines_of_parts whole ∙ only_line bytes some
