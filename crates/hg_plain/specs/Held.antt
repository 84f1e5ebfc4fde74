-- What the tables of an order hold, and a graph that is read as a prefix
use Rattle.std.specs.Prelude.{ℕ, suc, ◌≡◌, ◌<◌, ◌≤◌, ◌-◌, ◌^◌, List, [], length, Option, None}
use Rattle.hg_model.specs.declared.row.Row.{Row}
use Rattle.hg_model.specs.Places.{list_below}
use Rattle.hg_model.specs.Stakes.{Stakes, member_count}
use Rattle.hg_model.specs.Links.{Link, links}
use Rattle.hg_model.specs.Shape.{Shape, shape_of}
use Rattle.hg_model.specs.Fame.{Marks, is_witness_of_round}
use Rattle.hg_model.specs.Graph.{IsShaped}
use Rattle.hg_model.specs.Order.{round_received}
use Rattle.hg_model.specs.Rounds.{last_round, stake_at}
use Rattle.hg_plain_graph.specs.Tables.{IsTableOf}

-- for each row the round that receives it, if some round does
abbrev pub IsReceivedTable : Shape → Marks → List (Option ℕ) → Type 0
IsReceivedTable s marks received = IsTableOf None (round_received s.members s.links marks) (length s.links) received

-- the witnesses of round r, in order
unfoldable pub witnesses_of : Stakes → List Link → ℕ → List ℕ
witnesses_of n L r = list_below (λ w. w) (length L) (is_witness_of_round n L r)

-- for each round up to the greatest its witnesses
abbrev pub IsWitnessTable : Shape → List (List ℕ) → Type 0
IsWitnessTable s witnesses = IsTableOf [] (witnesses_of s.members s.links) (suc (last_round s.members s.links)) witnesses

-- for each row the stake of its creator
abbrev pub IsStakeTable : Shape → List ℕ → Type 0
IsStakeTable s stakes = IsTableOf 0 (stake_at s.members s.links) (length s.links) stakes

-- rows of few members with the tables of just them, a coin period, the witnesses of each round up to the greatest, and the
-- stake of each row
pub record HoldsPrefix (G : List Row) (shape : Shape) (coin : ℕ) (witnesses : List (List ℕ)) (stakes : List ℕ) : Type 0 where
  pub same : shape.links ≡ links G
  pub shaped : IsShaped shape.members (links G)
  pub short : length (links G) < 2 ^ 32 - 1
  pub few : member_count shape.members ≤ 128
  pub lawful_coin : 2 < coin
  pub witnesses_of : IsWitnessTable (shape_of shape.members (links G)) witnesses
  pub stakes_of : IsStakeTable (shape_of shape.members (links G)) stakes
