-- What a reader of lines finds, and what it hears
use Rattle.std.proofs.Common.{◌<◌, ◌≡◌, length, ℕ, Bool, true, false, ◌+◌, List, [], ◌∷◌, ◌++◌, take, drop, Option, Some, None, Result, Ok, Err, refl, sym, ap, ◌∙◌, arith}
use Rattle.std.specs.Prelude.{is_some, IfOk, IfSome, OnErr}
use Rattle.std.specs.List.{position}
use Rattle.std.proofs.lemmas.Bool.{lt-ltb}
use Rattle.std.proofs.lemmas.List.Elements.{All-nil}
use Rattle.hg_io.specs.Bytes.{TakesOff}
use Rattle.hg_script.specs.Script.{is_line_feed}
use Rattle.hg_asking.specs.Lines.{Finds, FrontView, Hears, IsBehind, IsInLine, found, front_in, has_line, heard_of, lines_kept, reader_of, with_part}
use Rattle.hg_asking.proofs.LineLaws.{cut_at, found_line, front_line, no_line, none_at, part_in_line, part_more}

-- what goes on from a line that was found begins anew
pub begun_in_line : (is_found : Bool) (front : FrontView) → IsInLine front.bytes → IsInLine (front_in is_found front).bytes
begun_in_line true front within = All-nil (λ b. is_line_feed b ≡ false)
begun_in_line false front within = within

heard_by : (is_long : Bool) (bytes ahead : List ℕ)
    → found (reader_of true (record { bytes = bytes; is_long = is_long }) ahead) (heard_of (record { bytes = bytes; is_long = is_long })) ≡ front_line (record { bytes = bytes; is_long = is_long })
heard_by true bytes ahead = refl
heard_by false bytes ahead = refl

module _ (is_found : Bool) (front : FrontView) (ahead : List ℕ) (within : IsInLine front.bytes) where
  abbrev now : FrontView
  now = front_in is_found front

  -- the line up to the first line feed is found
  pub finds_line : (end : ℕ) → position is_line_feed ahead ≡ Some end
      → Finds (reader_of is_found front ahead) (reader_of true (with_part now (take end ahead)) (drop (end + 1) ahead)) (Some (heard_of (with_part now (take end ahead))))
  finds_line end at =
      λ more. let line : FrontView = with_part now (take end ahead) in
      found_line now ahead end more (begun_in_line is_found front within) at
      ∙ ap (λ (first : Option (List ℕ)). first ∷ lines_kept (drop (end + 1) ahead ++ more)) (sym (heard_by line.is_long line.bytes (drop (end + 1) ahead)))

  pub line_in_line : (end : ℕ) → position is_line_feed ahead ≡ Some end → IsInLine (with_part now (take end ahead)).bytes
  line_in_line end at = part_in_line now (take end ahead) (begun_in_line is_found front within) (cut_at ahead end at).0

  line_by : (at : Option ℕ) → position is_line_feed ahead ≡ at → has_line (reader_of is_found front ahead) ≡ is_some at
  line_by None none = rw (no_line now ahead (begun_in_line is_found front within) (none_at ahead none)) refl
  line_by (Some end) at = rw (found_line now ahead end [] (begun_in_line is_found front within) at) (lt-ltb 0 _ (omega arith))

  -- a whole line is there where a line feed is
  pub has_line-is : has_line (reader_of is_found front ahead) ≡ is_some (position is_line_feed ahead)
  has_line-is = line_by (position is_line_feed ahead) refl

  pub no_line_found : position is_line_feed ahead ≡ None → Finds (reader_of is_found front ahead) (reader_of is_found front ahead) None
  no_line_found none = (line_by None none, refl)

  none_by : (at : Option ℕ) → is_some at ≡ false → at ≡ None
  none_by None fails = refl
  none_by (Some end) fails = absurd cc

  pub no_feed : has_line (reader_of is_found front ahead) ≡ false → position is_line_feed ahead ≡ None
  no_feed none = none_by (position is_line_feed ahead) (sym has_line-is ∙ none)

  pub rest_in_line : has_line (reader_of is_found front ahead) ≡ false → IsInLine (with_part now ahead).bytes
  rest_in_line none = part_in_line now ahead (begun_in_line is_found front within) (none_at ahead (no_feed none))

  -- what was read goes behind what is kept
  goes_behind : (piece : List ℕ) → has_line (reader_of is_found front ahead) ≡ false
      → IsBehind (reader_of is_found front ahead) (reader_of false (with_part now ahead) piece) piece
  goes_behind piece none = λ more. part_more now ahead (piece ++ more) (begun_in_line is_found front within) (none_at ahead (no_feed none))

  none_taken : (before after : Option (List ℕ)) → TakesOff before after [] → after ≡ before
  none_taken before None taken = sym taken
  none_taken before (Some rest) taken = sym taken

  pub hears : {E : Type 0} (before after : Option (List ℕ)) (piece : List ℕ) (r : Result Bool E) → has_line (reader_of is_found front ahead) ≡ false
      → TakesOff before after piece → IfOk r (λ some. some ≡ true → 0 < length piece) → IfOk r (λ some. some ≡ false → IfSome after (λ rest. rest ≡ [])) → IfOk r (λ some. some ≡ false → piece ≡ [])
      → OnErr r (piece ≡ [])
      → Hears before after (reader_of is_found front ahead) (reader_of false (with_part now ahead) piece) r
  hears before after piece (Ok true) none taken came ended nothing failed =
      record { bytes = piece; taken = taken; behind = goes_behind piece none; some = λ _. came refl }
  hears before after piece (Ok false) none taken came ended nothing failed =
      (none_taken before after (rw (nothing refl) at taken), ended refl, rw (nothing refl) (goes_behind [] none))
  hears before after piece (Err e) none taken came ended nothing failed = (none_taken before after (rw failed at taken), rw failed (goes_behind [] none))
