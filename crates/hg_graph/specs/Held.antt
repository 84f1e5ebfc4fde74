-- A node's graph as callers see it, and what every such graph keeps to
use Rattle.std.specs.Prelude.{ℕ, ◌≡◌, ◌<◌, ◌≤◌, List, [], ◌∷◌, ◌++◌, length, take, Some, slice_get}
use Rattle.hg_model.specs.declared.row.Row.{Row}
use Rattle.hg_model.specs.Shape.{Shape}
use Rattle.hg_model.specs.Stakes.{member_count, total}
use Rattle.hg_life.specs.Spelling.{Spells, spelling}
use Rattle.hg_life.specs.Terms.{row_limit}
use Rattle.hg_model.specs.Prefix.{Graph, graph_of}
use Rattle.hg_model.specs.GraphWords.{IsLawfulGraph, standings_in, shape_in}
use Rattle.hg_forks.specs.SelfLinks.{self_shape}
use Rattle.hg_rounds.specs.Tabled.{Tabled, TellsWeights}

-- a graph, and for how many more rows there is memory at least
pub record GraphWithRoom : Type 0 where
  pub graph : Graph
  pub room : ℕ

-- the graph with one row more
abbrev pub graph_with : Graph → Row → Graph
graph_with g row = graph_of g.members g.coin (g.rows ++ row ∷ [])

-- the graph of the first `len` rows
abbrev pub first_graph : Graph → ℕ → Graph
first_graph g len = graph_of g.members g.coin (take len g.rows)

-- each row has the sizes and the name of an event
abbrev pub AreEvents : List Row → Type 0
AreEvents G = (x : ℕ) (row : Row) → slice_get G x ≡ Some row → Spells (spelling row) row

-- a graph of at most 128 members, who have some stake, and of at most so many events as a node holds
pub record IsHeld (g : Graph) : Type 0 where
  pub some_stake : 0 < total g.members
  pub few_members : member_count g.members ≤ 128
  pub coin : 2 < g.coin
  pub graph : IsLawfulGraph g
  pub events : AreEvents g.rows
  pub few : length g.rows ≤ row_limit

-- what is kept beside the rows: their sight, the same without other-parents, their standings, and what each round's witnesses
-- weigh
pub record KeepsGraph (g : Graph) (sight watched : Shape) (rounds : Tabled) : Type 0 where
  pub held : IsHeld g
  pub seen : sight ≡ shape_in g
  pub forked : watched ≡ self_shape (shape_in g)
  pub placed : rounds.standings ≡ standings_in (shape_in g)
  pub weighed : TellsWeights (shape_in g) rounds.standings rounds.weights
