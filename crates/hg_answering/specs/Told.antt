-- How what is told is found: windows of lists, and members by flags or names
use Rattle.std.specs.Prelude.{ℕ, ◌≡◌, ◌-◌, ◌≤◌, Bool, false, is_some, List, [], get_or, length, min, Option, None, unwrap_or}
use Rattle.hg_model.specs.Places.{list_below}

-- the members that are flagged
abbrev pub members_flagged : List Bool → List ℕ
members_flagged flags = list_below (λ m. m) (length flags) (λ m. get_or flags m false)

-- the names that are there
abbrev pub names_there : List (Option (List ℕ)) → List (List ℕ)
names_there names = list_below (λ m. unwrap_or (get_or names m None) []) (length names) (λ m. is_some (get_or names m None))

-- in a list of this length a window begins at the first of these places, and ends before the second
pub record IsWindow (len from limit : ℕ) (bounds : ℕ × ℕ) : Type 0 where
  pub ordered : bounds.0 ≤ bounds.1
  pub within : bounds.1 ≤ len
  pub start : bounds.0 ≡ min from len
  pub size : bounds.1 - bounds.0 ≡ min limit (len - bounds.0)
