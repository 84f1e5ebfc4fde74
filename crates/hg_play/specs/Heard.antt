-- What takers have heard of their peers, by the rows that the seats have seen; what is handed over, and what comes of it
use Rattle.std.specs.Prelude.{ℕ, ◌≡◌, ◌≢◌, List, [], ◌∷◌, Result, IfOk}
use Rattle.hg_model.specs.declared.row.Row.{Row}
use Rattle.hg_life.specs.NodeView.{NodeView}
use Rattle.hg_graph.specs.RowsWithRoom.{rows_of}
use Rattle.hg_gossip.specs.declared.gossip.Taken.{Taken}
use Rattle.hg_gossip.specs.Handing.{AreKnown, HeardView}
use Rattle.hg_gossip.specs.Known.{HasRest, KeepsKnown, nth_rows}
use Rattle.hg_world.specs.World.{Secrets}
use Rattle.hg_world.specs.Parts.{nth_node, rows_of_each}
use Rattle.hg_world.specs.Syncs.{last_made}
use Rattle.hg_board.specs.Seats.{SharedNode, SeatView}
use Rattle.hg_crowd.specs.Party.{PartyView}
use Rattle.hg_play.specs.declared.handing.Handed.{Handed}
use Rattle.hg_play.specs.Nodes.{IsKept}
use Rattle.hg_play.specs.Through.{AreHanded, AreNodes, MatchesNone, MatchesTaken, node_seen, seen_shared}

-- the nodes, as their seats have seen them
abbrev pub nodes_by : List (SharedNode Secrets) → List (SeatView Secrets) → List (NodeView Secrets)
nodes_by [] seats = []
nodes_by (p ∷ places) [] = []
nodes_by (p ∷ places) (s ∷ seats) = node_seen p s ∷ nodes_by places seats

abbrev pub nodes_seen : PartyView Secrets → List (NodeView Secrets)
nodes_seen v = nodes_by v.places v.seats

-- the rows of each
abbrev pub rows_seen : PartyView Secrets → List (List Row)
rows_seen v = rows_of_each (nodes_seen v)

-- nodes of one list of members, of which each has of each what it has heard
pub record KeepsNodes (v : PartyView Secrets) (known : List (List HeardView)) : Type 0 where
  pub nodes : AreNodes v.places v.seats
  pub heard : KeepsKnown (rows_seen v) known

-- the node at k was read, and this was found of it
pub record IsRead (k : ℕ) (IsFound : NodeView Secrets → Type 0) (old new : PartyView Secrets) : Type 0 where
  pub nodes : AreNodes new.places new.seats
  pub kept : IsKept (seen_shared old) (seen_shared new)
  pub none : MatchesNone (seen_shared old) (seen_shared new)
  pub found : IsFound (nth_node (nodes_seen new) k)

-- rows that each of the nodes may take, and of which x lacks those that it lacks of all rows of y; how many these are, and the
-- name of the last one that y made
pub record IsHanded (v : PartyView Secrets) (x y : ℕ) (handed : Handed) : Type 0 where
  pub rows : AreHanded v.places (rows_of handed.events.items)
  pub rest : HasRest (rows_seen v) x y handed.len (rows_of handed.events.items)
  pub last : handed.last ≡ last_made (nth_node (nodes_seen v) y)

-- nodes were read for it
pub record HandsOver {E : Type 0} (x y : ℕ) (result : Result Handed E) (old new : PartyView Secrets) : Type 0 where
  pub nodes : AreNodes new.places new.seats
  pub kept : IsKept (seen_shared old) (seen_shared new)
  pub none : MatchesNone (seen_shared old) (seen_shared new)
  pub handed : IfOk result (IsHanded new x y)

-- rows came to the node at k
pub record TakesRows {E : Type 0} (k : ℕ) (rows : List Row) (result : Result Taken E) (old new : PartyView Secrets) : Type 0 where
  pub nodes : AreNodes new.places new.seats
  pub kept : IsKept (seen_shared old) (seen_shared new)
  pub others : (m : ℕ) → m ≢ k → nth_rows (rows_seen new) m ≡ nth_rows (rows_seen old) m
  pub all : IfOk result (λ counts. counts.refused ≡ 0 → AreKnown (nth_rows (rows_seen new) k) rows)
  pub told : IfOk result (MatchesTaken (seen_shared old) (seen_shared new) k rows)

-- it is kept, where such rows came to x of the `len` rows of y, and so many of them were refused
abbrev pub KeepsNoted : List (List HeardView) → ℕ → ℕ → ℕ → List Row → ℕ → List (List HeardView) → Type 0
KeepsNoted old x y len rows refused new =
    (all : List (List Row)) → KeepsKnown all old → (x ≢ y → HasRest all x y len rows) → (refused ≡ 0 → AreKnown (nth_rows all x) rows) → KeepsKnown all new
