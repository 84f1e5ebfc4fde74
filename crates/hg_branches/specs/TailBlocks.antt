-- Tails in sealed blocks and an open one, as one list
use Rattle.std.specs.Prelude.{◌≡◌, ℕ, ◌≤◌, cond, nat_lt, List, [], ◌∷◌, ◌++◌, length}
use Rattle.std.specs.List.{flat_map, AllByRecursion}
use Rattle.std.specs.declared.sync.Arc.{Arc}
use Rattle.hg_branches.specs.Tails.{Tail, TailsWithRoom}

-- the tails of a block that is shared
abbrev pub tails_in : {A : Type 0} → Arc TailsWithRoom A → List Tail
tails_in block = block.value.rows

-- the tails of all blocks, and then those of the open one
abbrev pub joined_tails : {A : Type 0} → List (Arc TailsWithRoom A) → List Tail → List Tail
joined_tails sealed open_rows = flat_map tails_in sealed ++ open_rows

-- a block has 64 rows
abbrev pub IsFull : {A : Type 0} → Arc TailsWithRoom A → Type 0
IsFull block = length (tails_in block) ≡ 64

-- what the blocks keep to
pub record HoldsTails {A : Type 0} (sealed : List (Arc TailsWithRoom A)) (open_rows : List Tail) : Type 0 where
  pub full : AllByRecursion IsFull sealed
  pub few : length open_rows ≤ 64

-- the open block becomes the last sealed one
pub record SealsTails {A : Type 0} (sealed : List (Arc TailsWithRoom A)) (open_rows : List Tail) (after : List (Arc TailsWithRoom A)) (rest : List Tail) : Type 0 where
  pub block : Arc TailsWithRoom A
  pub holds : tails_in block ≡ open_rows
  pub behind : after ≡ sealed ++ block ∷ []
  pub none : rest ≡ []

-- memory for a row with fewer numbers than that, where the open block has place for a row
abbrev pub open_room : TailsWithRoom → ℕ
open_room tails = cond (nat_lt (length tails.rows) 64) tails.room 0
