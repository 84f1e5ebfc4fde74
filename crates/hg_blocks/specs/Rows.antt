-- Rows of numbers in blocks and a tail, as one list
use Rattle.std.specs.Prelude.{ℕ, ◌≡◌, ◌<◌, ◌≤◌, ◌+◌, ◌-◌, ◌*◌, List, [], ◌∷◌, ◌++◌, length, min, slice_index_or}
use Rattle.std.specs.List.{flat_map, AllByRecursion}
use Rattle.std.specs.declared.sync.Arc.{Arc}
use Rattle.std.specs.Global.{Vec}

-- how many numbers a row has, the numbers of all rows, and for how many more rows there is memory at least
pub record RowsWithRoom (T : Type 0) : Type 0 where
  pub width : ℕ
  pub numbers : List T
  pub room : ℕ

-- of rows of so many numbers each, one after the other, these are the numbers of row x
abbrev pub IsRow : {T : Type 0} → ℕ → List T → ℕ → List T → Type 0
IsRow {T} width numbers x row = (b : ℕ) (d : T) → b < width → slice_index_or row b d ≡ slice_index_or numbers (x * width + b) d

-- the numbers of a block that is shared
abbrev pub numbers_of : {T A : Type 0} → Arc (Vec T) A → List T
numbers_of block = block.value.items

-- the numbers of all blocks, and then those of the tail
abbrev pub joined_rows : {T A : Type 0} → List (Arc (Vec T) A) → List T → List T
joined_rows sealed tail = flat_map numbers_of sealed ++ tail

-- a block of 64 rows
abbrev pub HasRows : {T A : Type 0} → ℕ → Arc (Vec T) A → Type 0
HasRows width block = length (numbers_of block) ≡ 64 * width

-- what blocks and a tail of rows keep to
pub record HoldsRows {T A : Type 0} (width : ℕ) (sealed : List (Arc (Vec T) A)) (tail : List T) : Type 0 where
  pub full : AllByRecursion (HasRows width) sealed
  pub rows : ℕ
  pub few : rows ≤ 64
  pub whole : length tail ≡ rows * width

-- the tail becomes the last block
abbrev pub SealsRows : {T A : Type 0} → List (Arc (Vec T) A) → List (Arc (Vec T) A) → List T → Type 0
SealsRows {T} {A} before after tail = (block : Arc (Vec T) A) × (numbers_of block ≡ tail) × (after ≡ before ++ block ∷ [])

-- whether there is memory for one row more in the tail
abbrev pub row_room : {T : Type 0} → ℕ → List T → ℕ → ℕ
row_room width tail capacity = min (64 * width) capacity + 1 - (length tail + width)
