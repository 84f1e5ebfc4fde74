-- What a worker elects in a turn, and how many marks its seat has seen
use Rattle.std.specs.Prelude.{ℕ, ◌≡◌, [], length, Option, None, Some}
use Rattle.hg_model.specs.declared.share.Found.{Found}
use Rattle.hg_model.specs.GraphWords.{fame_in}
use Rattle.hg_life.specs.NodeView.{node_marks}
use Rattle.hg_model.specs.Shares.{Share}
use Rattle.hg_fame.specs.Decisions.{AreWitnesses, fames_among}
use Rattle.hg_votes.specs.Counting.{IsMadeFor}
use Rattle.hg_node.specs.declared.open.Open.{Open}
use Rattle.hg_node.specs.ChronicleView.{marked}
use Rattle.hg_board.specs.Table.{node_at}
use Rattle.hg_board.specs.Seats.{SharedNode, SeatView}

-- what is open can be elected: the votes are those on the graph, and the places are witnesses of it
abbrev pub IsElectable : Option Open → Type 0
IsElectable None = Unit {0}
IsElectable (Some opened) = IsMadeFor opened.votes opened.graph.graph × AreWitnesses opened.graph.graph (length opened.graph.graph.rows) opened.places.items

-- these are the fames of the open places
pub record ElectsAll (share : Share) (opened : Open) (found : Found) : Type 0 where
  pub len : found.len ≡ length opened.graph.graph.rows
  pub mine : found.share ≡ share
  pub marks : found.marks ≡ fames_among (fame_in opened.graph.graph) opened.places.items

-- nothing is found only where nothing is open, or where of all that is open nothing is decided
abbrev pub Elects : Share → Option Open → Option Found → Type 0
Elects share None found = found ≡ None
Elects share (Some opened) None = fames_among (fame_in opened.graph.graph) opened.places.items ≡ []
Elects share (Some opened) (Some found) = ElectsAll share opened found

-- how many rows have a mark where the seat is
abbrev pub marks_seen : {V : Type 0} → SharedNode V → SeatView V → ℕ
marks_seen p s = marked (node_marks (node_at p.start s.seen))
