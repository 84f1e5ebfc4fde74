-- What the rows of bits and the masks of a graph hold
use Rattle.std.specs.Prelude.{◌≡◌, ℕ, ◌+◌, ◌-◌, ◌<◌, ◌≤◌, ◌^◌, Bool, false, not, ◌&&◌, ◌==◌, List, [], length, get_or, replicate, Option, Some, None, ◌||◌, ◌∷◌, ◌++◌}
use Rattle.std.specs.List.{list_any}
use Rattle.hg_model.specs.Places.{some_below, table}
use Rattle.hg_model.specs.Stakes.{Stakes, member_count}
use Rattle.hg_model.specs.Links.{Link, creator}
use Rattle.hg_model.specs.Ancestry.{is_ancestor}
use Rattle.hg_model.specs.Forks.{has_fork_below}
use Rattle.hg_model.specs.Graph.{IsShaped}
use Rattle.hg_model.specs.Seeing.{sees}
use Rattle.hg_bits.specs.Masks.{mask_has}

-- the row of bits of x
unfoldable pub row_at : List (List Bool) → ℕ → List Bool
row_at rows x = get_or rows x []

-- for each row its ancestors, up to itself
pub record HoldsAncestors (L : List Link) (rows : List (List Bool)) : Type 0 where
  pub len : length rows ≡ length L
  pub row : (x : ℕ) → x < length L → row_at rows x ≡ table (is_ancestor L x) (x + 1)

-- for each row the members with a fork among its ancestors
pub record HoldsForks (L : List Link) (masks : List ℕ) : Type 0 where
  pub len : length masks ≡ length L
  pub mask : (x : ℕ) → x < length L → (m : ℕ) → mask_has (get_or masks x 0) m ≡ has_fork_below L x m

-- of a shaped graph of few members both
pub record HoldsSight (n : Stakes) (L : List Link) (rows : List (List Bool)) (masks : List ℕ) : Type 0 where
  pub shaped : IsShaped n L
  pub few : member_count n ≤ 128
  pub short : length L < 2 ^ 32 - 1
  pub ancestors : HoldsAncestors L rows
  pub forks : HoldsForks L masks

-- a row of bits that is kept for the next row of a graph
abbrev pub IsSpare : ℕ → Option (List Bool) → Type 0
IsSpare rows None = Unit {0}
IsSpare rows (Some row) = row ≡ replicate (rows + 1) false

-- for how many rows a spare row serves
abbrev pub spare_room : Option (List Bool) → ℕ
spare_room None = 0
spare_room (Some row) = 1

-- the ancestors of a row on these parents among the rows before it
abbrev pub is_above : List Link → List ℕ → ℕ → Bool
is_above L parents y = list_any (λ p. is_ancestor L p y) parents

-- these ancestors, as the row of bits of the next row, and with that row itself
abbrev pub above_row : List Link → List ℕ → List Bool
above_row L parents = table (is_above L parents) (length L + 1)

abbrev pub next_row : List Link → List ℕ → List Bool
next_row L parents = table (λ k. k == length L || is_above L parents k) (length L + 1)

-- member m has a row of the first set that is none of the other
abbrev pub is_apart : List Link → (ℕ → Bool) → (ℕ → Bool) → ℕ → Bool
is_apart L A B m = some_below (length L) (λ a. (A a && not (B a)) && creator L a == m)

-- what comes with one parent more: forks among the ancestors of q, and members with a row of the set alone and one among the
-- ancestors of q alone; for the new row's creator the new row itself is one of the set's
abbrev pub forks_with : List Link → ℕ → (ℕ → Bool) → ℕ → ℕ → Bool
forks_with L by A q m = has_fork_below L q m || ((m == by || is_apart L A (is_ancestor L q) m) && is_apart L (is_ancestor L q) A m)

-- the mask has these members, and that of z, where z is an ancestor of x that sees y
abbrev pub AddsSeer : List Link → ℕ → ℕ → ℕ → ℕ → ℕ → Type 0
AddsSeer L x y z before after =
    (m : ℕ) → mask_has after m ≡ (mask_has before m || (is_ancestor L x z && (creator L z == m && sees L z y)))

-- the mask has the members with a fork among the ancestors of a new row with this link
abbrev pub IsForkMask : List Link → Link → ℕ → Type 0
IsForkMask L link mask = (m : ℕ) → mask_has mask m ≡ has_fork_below (L ++ link ∷ []) (length L) m
