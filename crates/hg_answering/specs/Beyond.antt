-- How the rows beyond some names are found: a flag for each row, of which those from a place on are looked at
use Rattle.std.specs.Prelude.{ℕ, ◌≡◌, ◌<◌, ◌≤◌, Bool, false, ◌&&◌, nat_le, not, List, get_or, length, map, take}
use Rattle.hg_model.specs.Links.{parent_names, place_of}
use Rattle.hg_model.specs.Places.{list_below}
use Rattle.hg_model.specs.declared.row.Row.{Row}
use Rattle.hg_node.specs.Beyond.{bytes_at, is_behind_some}

-- the places of the rows that a row names as its parents
abbrev pub named_places : List Row → Row → List ℕ
named_places G row = map (place_of G) (parent_names row.parents)

-- from this place on those rows are flagged that are ancestors of a row with one of these names
pub record AreFlaggedFrom (G : List Row) (names : List (List ℕ)) (start : ℕ) (flags : List Bool) : Type 0 where
  pub len : length flags ≡ length G
  pub each : (x : ℕ) → start ≤ x → x < length G → get_or flags x false ≡ is_behind_some G names x

-- the row stands at this place or behind it, and is not flagged
abbrev pub is_unflagged_from : List Bool → ℕ → ℕ → Bool
is_unflagged_from flags start x = nat_le start x && not (get_or flags x false)

-- the bytes of such rows, of the first `end` ones and of all
abbrev pub beyond_before : List Row → List Bool → ℕ → ℕ → List (List ℕ)
beyond_before G flags start end = list_below (bytes_at G) end (is_unflagged_from flags start)

abbrev pub beyond_flagged : List Row → List Bool → ℕ → List (List ℕ)
beyond_flagged G flags start = beyond_before G flags start (length G)

-- there are so many of these, and the first ones, at most `limit`, are those
pub record BeginWith (limit : ℕ) (xs : List (List ℕ)) (count : ℕ) (some : List (List ℕ)) : Type 0 where
  pub all : count ≡ length xs
  pub first : some ≡ take limit xs
