-- The lines of bytes that come one part after the other
use Rattle.std.proofs.Common.{◌≡◌, ℕ, suc, Bool, true, false, nat_lt, ◌+◌, ◌-◌, ◌<◌, if◌then◌else◌, List, [], ◌∷◌, ◌++◌, length, take, drop, get_or, map, Option, Some, None, refl, sym, ap, ◌∙◌, arith, append_assoc, add-one, length-append, inl, inr}
use Rattle.std.proofs.Math.Seq.{drop-cons}
use Rattle.std.proofs.lemmas.Bool.{cases_Bool, eqb-true, ltb-false, ltb-true, lt-ltb}
use Rattle.std.proofs.lemmas.Grind.{common_steps}
use Rattle.std.proofs.lemmas.List.{append-nil, take-append-drop}
use Rattle.std.proofs.lemmas.List.Elements.{All-append, All-nil}
use Rattle.std.proofs.lemmas.List.Quantifiers.{position-Some}
use Rattle.std.proofs.lemmas.List.Splits.{length-slice_split, slice_split_at, slice_split_none}
use Rattle.std.proofs.lemmas.List.Sums.{fails_before_first}
use Rattle.std.specs.List.{position, position_or_len, slice_split}
use Rattle.hg_script.specs.Script.{is_line_feed}
use Rattle.hg_service.specs.Asking.{line_limit, lines_in}
use Rattle.hg_asking.specs.Lines.{FrontView, IsInLine, kept, lines_behind, lines_kept, long_first, long_front, with_part}

-- ---- of bytes

front_kept : (line : List ℕ) (parts : List (List ℕ)) → 0 < length parts → take (length (line ∷ parts) - 1) (line ∷ parts) ≡ line ∷ take (length parts - 1) parts
front_kept line [] some = absurd (omega arith)
front_kept line (part ∷ parts) some =
    let fewer : length (line ∷ part ∷ parts) - 1 ≡ suc (length (part ∷ parts) - 1) = omega arith in
    ap (λ (k : ℕ). take k (line ∷ part ∷ parts)) fewer

-- bytes without a line feed, and one behind them, are the first line
pub lines_in-first : (line rest : List ℕ) → IsInLine line → lines_in (line ++ 10 ∷ rest) ≡ line ∷ lines_in rest
unfolding lines_in
lines_in-first line rest within =
    ap (λ (parts : List (List ℕ)). take (length parts - 1) parts) (slice_split_at is_line_feed line 10 rest within refl)
    ∙ front_kept line (slice_split is_line_feed rest) (omega (arith, length-slice_split is_line_feed rest))

-- .. and alone they are none
pub lines_in-none : (bytes : List ℕ) → IsInLine bytes → lines_in bytes ≡ []
unfolding lines_in
lines_in-none bytes within = ap (λ (parts : List (List ℕ)). take (length parts - 1) parts) (slice_split_none is_line_feed bytes within)

-- ---- a line feed at a place

-- what stands before the first line feed and behind it
pub cut_at : (bytes : List ℕ) (end : ℕ) → position is_line_feed bytes ≡ Some end
    → IsInLine (take end bytes) × (bytes ≡ take end bytes ++ 10 ∷ drop (end + 1) bytes) × (end < length bytes)
cut_at bytes end at =
    let (within, is, before) = position-Some is_line_feed bytes end 0 at in
    let feed : get_or bytes end 0 ≡ 10 = eqb-true _ _ is in (
      λ k d below. grind (arith, common_steps, (position-Some is_line_feed bytes end d at).2 k),
      sym (take-append-drop end bytes) ∙ ap (λ (rest : List ℕ). take end bytes ++ rest) (drop-cons bytes end 0 within ∙ ap (λ (b : ℕ). b ∷ drop (suc end) bytes) feed ∙ ap (λ (k : ℕ). 10 ∷ drop k bytes) (sym (add-one end))),
      within,
    )

-- where there is none
pub none_at : (bytes : List ℕ) → position is_line_feed bytes ≡ None → IsInLine bytes
none_at bytes none = λ k d below. fails_before_first is_line_feed bytes k d (elim (cases_Bool (nat_lt (position_or_len is_line_feed bytes) (length bytes))) [
  | inl within ↦ absurd (let some : Some (position_or_len is_line_feed bytes) ≡ None = rw within at none in cc)
  | inr past ↦ omega (arith, below, ltb-false _ _ past)
])

-- ---- the front of a line and the bytes behind it

-- what is kept of a front
abbrev pub front_line : FrontView → Option (List ℕ)
front_line front = if front.is_long then None else Some front.bytes

kept_first : (line rest : List ℕ) → IsInLine line → lines_kept (line ++ 10 ∷ rest) ≡ kept line ∷ lines_kept rest
kept_first line rest within = ap (map kept) (lines_in-first line rest within)

kept_none : (bytes : List ℕ) → IsInLine bytes → lines_kept bytes ≡ []
kept_none bytes within = ap (map kept) (lines_in-none bytes within)

kept_by : (b : Bool) (line : List ℕ) → front_line (if b then long_front else record { bytes = line; is_long = false }) ≡ (if b then None else Some line)
kept_by true line = refl
kept_by false line = refl

kept_front : (bytes part : List ℕ) → kept (bytes ++ part) ≡ front_line (with_part (record { bytes = bytes; is_long = false }) part)
kept_front bytes part =
    ap (λ (n : ℕ). if nat_lt line_limit n then None else Some (bytes ++ part)) (length-append bytes part)
    ∙ sym (kept_by (nat_lt line_limit (length bytes + length part)) (bytes ++ part))

both_in_line : (bytes part : List ℕ) → IsInLine bytes → IsInLine part → IsInLine (bytes ++ part)
both_in_line bytes part within part_within = All-append (λ b. is_line_feed b ≡ false) bytes part within part_within

-- a front, a part that ends its line, and what stands behind the line feed
ends_line : (bytes : List ℕ) (is_long : Bool) (part rest : List ℕ) → IsInLine bytes → IsInLine part
    → lines_behind (record { bytes = bytes; is_long = is_long }) (part ++ 10 ∷ rest)
    ≡ front_line (with_part (record { bytes = bytes; is_long = is_long }) part) ∷ lines_kept rest
ends_line bytes true part rest within part_within = ap long_first (kept_first part rest part_within)
ends_line bytes false part rest within part_within =
    ap lines_kept (sym (append_assoc bytes part (10 ∷ rest))) ∙ kept_first (bytes ++ part) rest (both_in_line bytes part within part_within)
    ∙ ap (λ (line : Option (List ℕ)). line ∷ lines_kept rest) (kept_front bytes part)

-- the line that ends at the first line feed
pub found_line : (front : FrontView) (ahead : List ℕ) (end : ℕ) (more : List ℕ) → IsInLine front.bytes → position is_line_feed ahead ≡ Some end
    → lines_behind front (ahead ++ more) ≡ front_line (with_part front (take end ahead)) ∷ lines_kept (drop (end + 1) ahead ++ more)
found_line front ahead end more within at =
    let (part_within, cut, short) = cut_at ahead end at in
    let part : List ℕ = take end ahead in
    let rest : List ℕ = drop (end + 1) ahead in
    ap (lines_behind front) (ap (λ (xs : List ℕ). xs ++ more) cut ∙ append_assoc part (10 ∷ rest) more)
    ∙ ends_line front.bytes front.is_long part (rest ++ more) within part_within

-- no line feed, no line
none_behind : (bytes : List ℕ) (is_long : Bool) (part : List ℕ) → IsInLine bytes → IsInLine part
    → lines_behind (record { bytes = bytes; is_long = is_long }) part ≡ []
none_behind bytes true part within part_within = ap long_first (kept_none part part_within)
none_behind bytes false part within part_within = kept_none (bytes ++ part) (both_in_line bytes part within part_within)

pub no_line : (front : FrontView) (ahead : List ℕ) → IsInLine front.bytes → IsInLine ahead → lines_behind front (ahead ++ []) ≡ []
no_line front ahead within ahead_within = ap (lines_behind front) (append-nil ahead) ∙ none_behind front.bytes front.is_long ahead within ahead_within

-- ---- a part that goes behind the front

put_by : (b : Bool) (bytes part : List ℕ) → IsInLine (bytes ++ part) → IsInLine (if b then long_front else record { bytes = bytes ++ part; is_long = false }).bytes
put_by true bytes part within = All-nil (λ b. is_line_feed b ≡ false)
put_by false bytes part within = within

put_in_line : (bytes : List ℕ) (is_long : Bool) (part : List ℕ) → IsInLine bytes → IsInLine part → IsInLine (with_part (record { bytes = bytes; is_long = is_long }) part).bytes
put_in_line bytes true part within part_within = within
put_in_line bytes false part within part_within = put_by (nat_lt line_limit (length bytes + length part)) bytes part (both_in_line bytes part within part_within)

pub part_in_line : (front : FrontView) (part : List ℕ) → IsInLine front.bytes → IsInLine part → IsInLine (with_part front part).bytes
part_in_line front part within part_within = put_in_line front.bytes front.is_long part within part_within

-- two parts go behind it as one
twice_by : (b : Bool) (bytes part line : List ℕ) → nat_lt line_limit (length bytes + length part) ≡ b
    → front_line (with_part (if b then long_front else record { bytes = bytes ++ part; is_long = false }) line) ≡ kept (bytes ++ (part ++ line))
twice_by true bytes part line long =
    let longer : nat_lt line_limit (length (bytes ++ (part ++ line))) ≡ true = lt-ltb _ _ (omega (arith, ltb-true _ _ long, length-append bytes (part ++ line), length-append part line)) in
    sym (ap (λ (b : Bool). if b then None else Some (bytes ++ (part ++ line))) longer)
twice_by false bytes part line short = sym (kept_front (bytes ++ part) line) ∙ ap kept (append_assoc bytes part line)

part_twice : (bytes : List ℕ) (is_long : Bool) (part line : List ℕ)
    → front_line (with_part (with_part (record { bytes = bytes; is_long = is_long }) part) line) ≡ front_line (with_part (record { bytes = bytes; is_long = is_long }) (part ++ line))
part_twice bytes true part line = refl
part_twice bytes false part line = twice_by _ bytes part line refl ∙ kept_front bytes (part ++ line)

more_by : (at : Option ℕ) (front : FrontView) (part more : List ℕ) → IsInLine front.bytes → IsInLine part → position is_line_feed more ≡ at
    → lines_behind (with_part front part) more ≡ lines_behind front (part ++ more)
more_by None front part more within part_within none =
    let more_within = none_at more none in
    let longer = part_in_line front part within part_within in
    none_behind (with_part front part).bytes (with_part front part).is_long more longer more_within
    ∙ sym (none_behind front.bytes front.is_long (part ++ more) within (both_in_line part more part_within more_within))
more_by (Some end) front part more within part_within at =
    let (line_within, cut, short) = cut_at more end at in
    let line : List ℕ = take end more in
    let rest : List ℕ = drop (end + 1) more in
    let longer = part_in_line front part within part_within in
    ap (lines_behind (with_part front part)) cut
    ∙ ends_line (with_part front part).bytes (with_part front part).is_long line rest longer line_within
    ∙ ap (λ (first : Option (List ℕ)). first ∷ lines_kept rest) (part_twice front.bytes front.is_long part line)
    ∙ sym (ends_line front.bytes front.is_long (part ++ line) rest within (both_in_line part line part_within line_within))
    ∙ ap (lines_behind front) (append_assoc part line (10 ∷ rest) ∙ ap (λ (xs : List ℕ). part ++ xs) (sym cut))

-- the lines of a longer front are those of the front and the part
pub part_more : (front : FrontView) (part more : List ℕ) → IsInLine front.bytes → IsInLine part → lines_behind (with_part front part) more ≡ lines_behind front (part ++ more)
part_more front part more within part_within = more_by (position is_line_feed more) front part more within part_within refl
