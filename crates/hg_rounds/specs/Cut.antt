-- The places of a list that come before others
use Rattle.std.specs.Prelude.{ℕ, ◌≡◌, ◌<◌, ◌≤◌, ◌-◌, List, length, take, get_or}

-- the places up to the last one below len; those after it are not below len
pub record IsCut (places : List ℕ) (len : ℕ) (first : List ℕ) : Type 0 where
  pub count : ℕ
  pub within : count ≤ length places
  pub first_are : first ≡ take count places
  pub last : 0 < count → get_or places (count - 1) 0 < len
  pub later : (i : ℕ) → count ≤ i → i < length places → len ≤ get_or places i 0
