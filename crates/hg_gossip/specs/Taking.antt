-- Events that a node accepts as signed, and that are put to it one after the other
use Rattle.std.specs.Prelude.{◌≡◌, ◌<◌, ℕ, true, List, ◌∷◌, ◌++◌, map}
use Rattle.std.specs.List.{AllByRecursion}
use Rattle.std.specs.declared.sync.Arc.{Arc}
use Rattle.hg_model.specs.declared.row.Row.{Row}
use Rattle.hg_life.specs.Signing.{Accepts}
use Rattle.hg_model.specs.Stakes.{member_count}
use Rattle.hg_life.specs.Spelling.{body_of, spelling}
use Rattle.hg_life.specs.NodeView.{NodeView, Start}
use Rattle.hg_graph.specs.RowsWithRoom.{rows_of}
use Rattle.hg_node.specs.Puts.{WouldAccept}
use Rattle.hg_gossip.specs.Nodes.{taking}

-- the bytes of events that are shared
abbrev pub bytes_of : {A : Type 0} → List (Arc Row A) → List (List ℕ)
bytes_of events = map spelling (rows_of events)

-- the row is of one of the members, whose signature a node that began so accepts
pub record IsSigned {K : Type 0} (accepts : K → Accepts) (start : Start K) (row : Row) : Type 0 where
  pub fits : row.creator < member_count start.members
  pub signed : accepts start.keys row.creator (body_of row) row.sig ≡ true

-- so are all of these
abbrev pub AreSigned : {K : Type 0} → (K → Accepts) → Start K → List Row → Type 0
AreSigned accepts start rows = AllByRecursion (IsSigned accepts start) rows

-- some of the first of these were put, and there was no memory to accept the next one
pub record TookSome {K : Type 0} (accepts : K → Accepts) (old : NodeView K) (events : List (List ℕ)) (new : NodeView K) : Type 0 where
  pub first : List (List ℕ)
  pub next : List ℕ
  pub rest : List (List ℕ)
  pub whole : events ≡ first ++ next ∷ rest
  pub after : new ≡ (taking accepts old first).node
  pub full : WouldAccept accepts new next
