-- Rows with their names, and for how many more rows there is memory
use Rattle.std.specs.Prelude.{ℕ, List, map, min, Option, Some, None, if◌then◌else◌}
use Rattle.std.specs.declared.sync.Arc.{Arc}
use Rattle.hg_model.specs.declared.row.Row.{Row}
use Rattle.hg_model.specs.Links.{place_of}
use Rattle.hg_model.specs.Held.{is_held}

-- rows, and for how many more there is memory at least
pub record RowsWithRoom : Type 0 where
  pub rows : List Row
  pub room : ℕ

-- the place of the row with this name, if there is one
abbrev pub found_place : List Row → List ℕ → Option ℕ
found_place G name = if is_held G name then Some (place_of G name) else None

-- the rows of events that are shared
abbrev pub rows_of : {A : Type 0} → List (Arc Row A) → List Row
rows_of events = map (λ event. event.value) events

-- the least of three rooms
abbrev pub least_of : ℕ → ℕ → ℕ → ℕ
least_of a b c = min a (min b c)
