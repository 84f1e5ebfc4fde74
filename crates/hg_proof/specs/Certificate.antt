-- An order certificate in bytes: rows of a graph, and an order of them. All numbers are big-endian
use Rattle.std.specs.Prelude.{ℕ, ◌<◌, ◌^◌, List, ◌++◌, length, codes}
use Rattle.std.specs.List.{AllByRecursion, flat_map}
use Rattle.std.specs.Int.{w32, w64, to_be_bytes}
use Rattle.hg_model.specs.declared.row.Row.{Row}
use Rattle.hg_model.specs.declared.row.Placed.{Placed}
use Rattle.hg_life.specs.Spelling.{spelling}
use Rattle.hg_life.specs.Terms.{row_limit}

-- what a certificate tells: some rows, and how they are ordered
pub record Certificate : Type 0 where
  pub rows : List Row
  pub order : List Placed

abbrev pub certificate : List Row → List Placed → Certificate
certificate rows order = record { rows = rows; order = order }

-- the first bytes of every certificate
abbrev pub magic : List ℕ
magic = codes "HGP1"

-- the greatest number of rows: as many as a graph holds
abbrev pub most_rows : ℕ
most_rows = row_limit

-- the events of these rows, end to end
abbrev pub rows_bytes : List Row → List ℕ
rows_bytes rows = flat_map spelling rows

-- an entry of the order, 16 bytes: the row's place, the round that received it, and its consensus timestamp
abbrev pub entry_bytes : Placed → List ℕ
entry_bytes p = to_be_bytes w32 p.place ++ (to_be_bytes w32 p.received ++ to_be_bytes w64 p.time)

-- entries, end to end
abbrev pub entries_bytes : List Placed → List ℕ
entries_bytes order = flat_map entry_bytes order

-- how many entries there are, and these
abbrev pub order_bytes : List Placed → List ℕ
order_bytes order = to_be_bytes w32 (length order) ++ entries_bytes order

-- the magic, how many rows there are, these, and the order
unfoldable pub certificate_bytes : Certificate → List ℕ
certificate_bytes shown =
    magic ++ (to_be_bytes w32 (length shown.rows) ++ (rows_bytes shown.rows ++ order_bytes shown.order))

-- the numbers of an entry fit their fields
pub record IsEntry (p : Placed) : Type 0 where
  pub place : p.place < 2 ^ 32
  pub received : p.received < 2 ^ 32
  pub time : p.time < 2 ^ 64

-- and so do those of each of these, and how many they are
pub record AreEntries (order : List Placed) : Type 0 where
  pub few : length order < 2 ^ 32
  pub entries : AllByRecursion IsEntry order
