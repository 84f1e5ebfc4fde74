-- The rounds and the witnesses of a graph as one list, of which a table of rounds tells.
-- SWIRLDS-TR-2016-01, section 4, procedure divideRounds
use Rattle.std.specs.Prelude.{ℕ, Bool, false, ◌&&◌, ◌==◌, List, length, Option, Some, None, slice_get}
use Rattle.hg_model.specs.Places.{list_below, maximum_below, table}
use Rattle.hg_model.specs.Stakes.{Stakes}
use Rattle.hg_model.specs.Links.{Link}
use Rattle.hg_model.specs.Rounds.{round_of, is_witness}

-- the round of an event, and whether it is a witness
pub record Standing : Type 0 where
  pub round : ℕ
  pub witness : Bool

-- the standing of x
abbrev pub standing_of : Stakes → List Link → ℕ → Standing
standing_of n L x = record { round = round_of n L x; witness = is_witness n L x }

-- the standings of all events of a graph
unfoldable pub standings_of : Stakes → List Link → List Standing
standings_of n L = table (standing_of n L) (length L)

abbrev pub standing_round : Option Standing → ℕ
standing_round None = 0
standing_round (Some standing) = standing.round

abbrev pub standing_witness : Option Standing → Bool
standing_witness None = false
standing_witness (Some standing) = standing.witness

-- the round of x
unfoldable pub round_at : List Standing → ℕ → ℕ
round_at S x = standing_round (slice_get S x)

-- x is a witness
unfoldable pub witness_at : List Standing → ℕ → Bool
witness_at S x = standing_witness (slice_get S x)

-- the places of the witnesses of round r
unfoldable pub witnesses_in : List Standing → ℕ → List ℕ
witnesses_in S r = list_below (λ x. x) (length S) (λ x. witness_at S x && round_at S x == r)

-- the greatest round, 0 without events
unfoldable pub greatest_in : List Standing → ℕ
greatest_in S = maximum_below (round_at S) (length S)
