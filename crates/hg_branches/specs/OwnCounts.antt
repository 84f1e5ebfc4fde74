-- What rows count of the members' own branches: those of the first rows and those of the others, as one list
use Rattle.std.specs.Prelude.{◌≡◌, ℕ, ◌+◌, ◌-◌, ◌*◌, ◌<◌, ◌≤◌, ◌==◌, ◌&&◌, nat_lt, nat_le, min, cond, List, ◌++◌, length, slice_index}
use Rattle.hg_blocks.specs.Rows.{RowsWithRoom}
use Rattle.hg_branches.specs.Branches.{greatest_count}

-- of so many rows a number for each member, row after row, and for how many more rows there is memory at least
pub record OwnWithRoom : Type 0 where
  pub rows : ℕ
  pub width : ℕ
  pub numbers : List ℕ
  pub room : ℕ

-- how many rows have numbers of 16 bits
abbrev pub narrow_rows : ℕ
narrow_rows = 65472

-- each list has the numbers of its rows
pub record HoldsOwn (rows : ℕ) (narrow wide : RowsWithRoom ℕ) : Type 0 where
  pub same : wide.width ≡ narrow.width
  pub first : length narrow.numbers ≡ min rows narrow_rows * narrow.width
  pub rest : length wide.numbers ≡ (rows - narrow_rows) * narrow.width

-- row x is one of those
pub record HasOwn (narrow wide : RowsWithRoom ℕ) (x : ℕ) : Type 0 where
  pub rows : ℕ
  pub held : HoldsOwn rows narrow wide
  pub inside : x < rows

-- there is memory for a row, and for it in the making
abbrev pub room_in : RowsWithRoom ℕ → ℕ → ℕ
room_in rows making = cond (nat_le 1 rows.room && nat_le rows.width making) 1 0

abbrev pub own_room : ℕ → RowsWithRoom ℕ → RowsWithRoom ℕ → ℕ → ℕ → ℕ
own_room rows narrow wide narrow_row wide_row =
    cond (nat_lt rows narrow_rows) (room_in narrow narrow_row) (room_in wide wide_row)

-- what row x counts of member b's own branch
abbrev pub number_in : RowsWithRoom ℕ → RowsWithRoom ℕ → ℕ → ℕ → ℕ
number_in narrow wide x b = slice_index (narrow.numbers ++ wide.numbers) (x * narrow.width + b)

-- the greatest numbers of the parents, and on the row's own branch its end
abbrev pub own_next : ℕ → List ℕ → List ℕ → ℕ → ℕ → ℕ → ℕ
own_next members own on branch end b = cond (b == branch) end (greatest_count (λ p c. slice_index own (p * members + c)) on b)

-- row p of these is there
abbrev pub has_own_row : RowsWithRoom ℕ → ℕ → Type 0
has_own_row own p = p * own.width + own.width ≤ length own.numbers

-- the next one's numbers, as `own_next`
abbrev pub own_in : RowsWithRoom ℕ → List ℕ → ℕ → ℕ → ℕ → ℕ
own_in own on branch end b = own_next own.width own.numbers on branch end b

abbrev pub next_in : RowsWithRoom ℕ → RowsWithRoom ℕ → List ℕ → ℕ → ℕ → ℕ → ℕ
next_in narrow wide on branch end b = own_next narrow.width (narrow.numbers ++ wide.numbers) on branch end b

-- one row more, on this branch and on these parents
pub record AddsOwn (old new : OwnWithRoom) (on : List ℕ) (branch : ℕ) : Type 0 where
  pub row : List ℕ
  pub rows : new.rows ≡ old.rows + 1
  pub width : new.width ≡ old.width
  pub numbers : new.numbers ≡ old.numbers ++ row
  pub long : length row ≡ old.width
  pub each : (b : ℕ) → b < old.width → slice_index row b ≡ own_next old.width old.numbers on branch (old.rows + 1) b
