-- How what a share found becomes marks: one place after the other
use Rattle.std.specs.Prelude.{ℕ, ◌+◌, Bool, cond, List, fold, Some, is_none, slice_set}
use Rattle.std.specs.Option.{option_or}
use Rattle.hg_model.specs.Fame.{Marks, mark_at}

-- marks to which more are added, and how many came new
pub record Adding : Type 0 where
  pub marks : Marks
  pub count : ℕ

-- a place's fame becomes its mark, if it has none
abbrev pub add_mark : Adding → ℕ × Bool → Adding
add_mark a found = record {
  marks = slice_set a.marks found.0 (option_or (mark_at a.marks found.0) (Some found.1));
  count = a.count + cond (is_none (mark_at a.marks found.0)) 1 0;
}

-- one after the other
unfoldable pub add_marks : Marks → List (ℕ × Bool) → Adding
add_marks marks found = fold add_mark (record { marks = marks; count = 0 }) found
