-- What lines leave beside their steps
use Rattle.std.specs.Prelude.{ℕ, List, [], ◌∷◌, ◌++◌}
use Rattle.hg_outcome.specs.declared.outcome.Printed.{Printed}

-- the bytes of the labels so far, and what was printed so far
pub record TapeView : Type 0 where
  pub labels : List (List ℕ)
  pub printed : List Printed

abbrev pub tape : List (List ℕ) → List Printed → TapeView
tape labels printed = record { labels = labels; printed = printed }

-- before the first line
abbrev pub no_tape : TapeView
no_tape = tape [] []

-- with a label more
abbrev pub with_label : TapeView → List ℕ → TapeView
with_label t bytes = tape (t.labels ++ bytes ∷ []) t.printed

-- with a piece more
abbrev pub with_piece : TapeView → Printed → TapeView
with_piece t piece = tape t.labels (t.printed ++ piece ∷ [])
