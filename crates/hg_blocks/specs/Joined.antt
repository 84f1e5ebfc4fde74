-- Items in blocks and a tail, as one list
use Rattle.std.specs.Prelude.{ℕ, ◌≡◌, ◌≤◌, ◌+◌, ◌-◌, ◌*◌, ◌^◌, List, ◌++◌, length, min}
use Rattle.std.specs.List.{flat_map}
use Rattle.std.specs.declared.sync.Arc.{Arc}
use Rattle.hg_blocks.specs.declared.block.Block.{Block}

-- items, for how many more there is memory at least, how many blocks are sealed, and how many items stand behind them
pub record WithRoom (T : Type 0) : Type 0 where
  pub items : List T
  pub room : ℕ
  pub sealed : ℕ
  pub tail : ℕ

-- the items of a block that is shared
abbrev pub items_of : {T A : Type 0} → Arc (Block T) A → List T
items_of block = block.value.items.items

-- the items of all blocks, and then those of the tail
abbrev pub joined : {T A : Type 0} → List (Arc (Block T) A) → List T → List T
joined sealed tail = flat_map items_of sealed ++ tail

-- what blocks and a tail keep to, with the number of all items
pub record HoldsItems {T A : Type 0} (len : ℕ) (sealed : List (Arc (Block T) A)) (tail : List T) : Type 0 where
  pub counted : len ≡ length (joined sealed tail)
  pub few : length tail ≤ 64

-- so many items stand in so many blocks of 64, and the rest, at most 64, in the tail
pub record IsSplit (len sealed tail : ℕ) : Type 0 where
  pub whole : 64 * sealed + tail ≡ len
  pub few : tail ≤ 64

-- for how many more items there is memory in the tail, and a number to count them
abbrev pub room_by : {T : Type 0} → ℕ → List T → ℕ → ℕ
room_by len tail capacity = min (min 64 capacity - length tail) (2 ^ 64 - 1 - len)
