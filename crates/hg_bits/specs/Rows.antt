-- Rows of bits as lists of truth values, each a set of places
use Rattle.std.specs.Prelude.{ℕ, Bool, false, not, ◌&&◌, ◌||◌, ◌==◌, List, length, slice_index_or}
use Rattle.hg_model.specs.Places.{some_below, table}

-- the place is in the row
abbrev pub is_in : List Bool → ℕ → Bool
is_in row i = slice_index_or row i false

-- the row with one place more
unfoldable pub with_place : List Bool → ℕ → List Bool
with_place row i = table (λ k. k == i || is_in row k) (length row)

-- the row with all places of the other
unfoldable pub union_of : List Bool → List Bool → List Bool
union_of row other = table (λ k. is_in row k || is_in other k) (length row)

-- the place is in the row, and not in the other
abbrev pub is_over : List Bool → List Bool → ℕ → Bool
is_over row other i = is_in row i && not (is_in other i)

-- each place of the row is one of the other
unfoldable pub is_subset : List Bool → List Bool → Bool
is_subset row other = not (some_below (length row) (is_over row other))
