-- The rounds that received rows
use Rattle.std.specs.Prelude.{ℕ, Bool, ◌&&◌, ◌==◌, nat_lt, List, length, get_or, Option, None, is_some, unwrap_or}
use Rattle.hg_model.specs.Places.{list_below}
use Rattle.hg_model.specs.declared.row.Row.{Row}
use Rattle.hg_model.specs.declared.row.Placed.{Placed}
use Rattle.hg_model.specs.Stakes.{Stakes}
use Rattle.hg_model.specs.Links.{Link}
use Rattle.hg_model.specs.Fame.{Marks}
use Rattle.hg_model.specs.Order.{ordered_in}

-- some round received the row, and it is r
abbrev pub is_round : ℕ → Option ℕ → Bool
is_round r received = is_some received && unwrap_or received 0 == r

-- the places of the rows that round r received
abbrev pub places_received : List (Option ℕ) → ℕ → List ℕ
places_received received r = list_below (λ x. x) (length received) (λ x. is_round r (get_or received x None))

-- what rounds before r received, in order
unfoldable pub ordered_before : Stakes → List Row → List Link → Marks → ℕ → List Placed
ordered_before n G L marks r = ordered_in n G L marks (λ k. nat_lt k r)
