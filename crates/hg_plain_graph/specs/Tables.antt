-- What the tables hold
use Rattle.std.specs.Prelude.{ℕ, ◌≡◌, ◌<◌, Bool, false, List, [], length, get_or, slice_get, Option, Some, None}
use Rattle.std.specs.Global.{Vec}

-- xs has the value at each place below n, and no more; `default` stands for what is past its end
pub record IsTableOf {A : Type 0} (default : A) (value : ℕ → A) (n : ℕ) (xs : List A) : Type 0 where
  pub len : length xs ≡ n
  pub at : (k : ℕ) → k < n → get_or xs k default ≡ value k

abbrev pub cells_of : Option (Vec Bool) → List Bool
cells_of None = []
cells_of (Some column) = column.items

-- the column of y
unfoldable pub column_at : List (Vec Bool) → ℕ → List Bool
column_at columns y = cells_of (slice_get columns y)

-- what stands for x in the column of y
unfoldable pub cell_at : List (Vec Bool) → ℕ → ℕ → Bool
cell_at columns x y = get_or (column_at columns y) x false

-- a column for each place y below n, which has at each place x below `rows` whether x stands in the relation to y
pub record IsTableOfPairs (related : ℕ → ℕ → Bool) (rows n : ℕ) (columns : List (Vec Bool)) : Type 0 where
  pub len : length columns ≡ n
  pub column : (y : ℕ) → y < n → IsTableOf false (λ x. related x y) rows (column_at columns y)
