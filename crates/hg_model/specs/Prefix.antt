-- The first rows of a node's graph, as the procedures that decide fame and find the order read them
use Rattle.std.specs.Prelude.{ℕ, ◌≡◌, ◌<◌, ◌≤◌, List, length, IsTrue}
use Rattle.hg_model.specs.declared.row.Row.{Row}
use Rattle.hg_model.specs.declared.ballot.Ballot.{Ballot}
use Rattle.hg_model.specs.Stakes.{Stakes}
use Rattle.hg_model.specs.Links.{Link, links}
use Rattle.hg_model.specs.Shape.{Shape, shape_of}
use Rattle.hg_model.specs.Rounds.{round_of, is_witness}
use Rattle.hg_model.specs.Standings.{Standing, standings_of}
use Rattle.hg_model.specs.Votes.{vote_of, decides}
use Rattle.hg_model.specs.Order.{coin_at}

-- rows, the stakes of the members that they are by, and the coin period
pub record Graph : Type 0 where
  pub members : Stakes
  pub coin : ℕ
  pub rows : List Row

abbrev pub graph_of : Stakes → ℕ → List Row → Graph
graph_of members coin rows = record { members = members; coin = coin; rows = rows }

abbrev pub links_of : Graph → List Link
links_of g = links g.rows

-- the shape and the standings are those of the graph, whose coin period is above 2
pub record IsOfGraph (shape : Shape) (standings : List Standing) (g : Graph) : Type 0 where
  pub shaped : shape ≡ shape_of g.members (links_of g)
  pub standing : standings ≡ standings_of g.members (links_of g)
  pub coin : 2 < g.coin

-- the vote of y on x, and whether it decides
abbrev pub ballot_of : Graph → ℕ → ℕ → Ballot
ballot_of g x y = record {
  vote = vote_of g.members g.coin (links_of g) (coin_at g.rows) x y;
  decides = decides g.members g.coin (links_of g) (coin_at g.rows) x y;
}

-- y is a witness of a round above the candidate's, and at most `last`, up to which votes are counted
pub record IsCounted (g : Graph) (candidate last y : ℕ) : Type 0 where
  pub place : y < length g.rows
  pub witness : IsTrue (is_witness g.members (links_of g) y)
  pub above : round_of g.members (links_of g) candidate < round_of g.members (links_of g) y
  pub counted : round_of g.members (links_of g) y ≤ last
