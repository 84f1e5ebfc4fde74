-- Twins: events by one creator on one self-parent, or both without one. Where a member has a fork it has twins
use Rattle.std.specs.Prelude.{ℕ, ◌≡◌, Bool, true, false, ◌&&◌, ◌==◌, List, length, Option, Some, None, slice_get}
use Rattle.std.specs.Str.{bytes_eq}
use Rattle.hg_model.specs.declared.row.Row.{Row}
use Rattle.hg_model.specs.Places.{some_below, has_place}
use Rattle.hg_model.specs.Links.{Link, creator, self_parent, ParentNames}
use Rattle.hg_model.specs.Graph.{creator_at}

abbrev pub is_same_self_parent : ParentNames → ParentNames → Bool
is_same_self_parent None None = true
is_same_self_parent None (Some other) = false
is_same_self_parent (Some names) None = false
is_same_self_parent (Some names) (Some other) = bytes_eq names.0 other.0

abbrev pub is_twin_row : Row → Row → Bool
is_twin_row a b = a.creator == b.creator && is_same_self_parent a.parents b.parents

abbrev pub is_twin_in : Option Row → Option Row → Bool
is_twin_in None b = false
is_twin_in (Some a) None = false
is_twin_in (Some a) (Some b) = is_twin_row a b

-- rows x and y are twins
unfoldable pub is_twin : List Row → ℕ → ℕ → Bool
is_twin G x y = is_twin_in (slice_get G x) (slice_get G y)

-- row x has a twin before it
unfoldable pub has_twin_before : List Row → ℕ → Bool
has_twin_before G x = some_below x (is_twin G x)

-- member m has twins
unfoldable pub has_twins : List Row → ℕ → Bool
has_twins G m = some_below (length G) (λ x. creator_at G x == m && has_twin_before G x)

-- a self-parent is by the creator of the row that stands on it
abbrev pub IsSelfParentBySame : List Link → Type 0
IsSelfParentBySame L = (x p : ℕ) → has_place (self_parent L x) p ≡ true → creator L p ≡ creator L x
