-- A row of a table of counts
use Rattle.std.specs.Prelude.{◌≡◌, ℕ, ◌+◌, List, [], ◌∷◌, ◌++◌, length, slice_index, slice_index_or}
use Rattle.hg_model.specs.Places.{table}
use Rattle.hg_branches.specs.Table.{CountsWithRoom}
use Rattle.hg_branches.specs.Tails.{place_count, place_width}

-- what a row counts of each branch, of which so many are the members' own
pub record RowView : Type 0 where
  pub members : ℕ
  pub row : List ℕ

-- row x
abbrev pub row_in : CountsWithRoom → ℕ → RowView
row_in counts x = record { members = counts.members; row = slice_index_or counts.rows x [] }

-- the row of these numbers of the members' own branches and, behind them, what a tail tells
abbrev pub joined_row : List ℕ → List ℕ → ℕ → ℕ → List ℕ
joined_row lanes numbers own end = lanes ++ table (place_count numbers own end) (place_width numbers own)

-- behind the members' own branches the row counts what the tail tells
pub record HasTail (members : ℕ) (row numbers : List ℕ) (own end : ℕ) : Type 0 where
  pub each : (k : ℕ) → slice_index row (members + k) ≡ place_count numbers own end k
  pub wide : length row ≡ members + place_width numbers own

-- the place of the self-parent among these parents of row x, or x where there are none
abbrev pub known_place : List ℕ → ℕ → ℕ
known_place [] x = x
known_place (p ∷ ps) x = p
