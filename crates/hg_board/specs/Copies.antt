-- What a shared node hands over of its rows, and of what is still to be decided
use Rattle.std.specs.Prelude.{ℕ, ◌≡◌, List, [], ◌∷◌, ◌++◌, drop, map, take, Option, option_map, slice_get}
use Rattle.std.specs.declared.sync.Arc.{Arc}
use Rattle.hg_model.specs.declared.row.Row.{Row}
use Rattle.hg_model.specs.Held.{lacking}
use Rattle.hg_model.specs.Shares.{Share}
use Rattle.hg_life.specs.Spelling.{spelling}
use Rattle.hg_life.specs.Verdict.{last_name}
use Rattle.hg_life.specs.NodeView.{NodeView, node_marks, node_rows}
use Rattle.hg_graph.specs.RowsWithRoom.{rows_of}
use Rattle.hg_node.specs.declared.open.Open.{Open}
use Rattle.hg_node.specs.ChronicleView.{graph_in, last_own_row}
use Rattle.hg_node.specs.Opening.{Opens}
use Rattle.hg_board.specs.declared.copies.EventParcel.{EventParcel}

-- the event is the last row that the node made, if it made any
abbrev pub IsLastRow : {V A : Type 0} → NodeView V → Option (Arc Row A) → Type 0
IsLastRow node event = option_map (λ e. e.value) event ≡ last_own_row node.start.own (node_rows node)

-- the events are those of these rows whose names the node lacks
abbrev pub AreLacked : {V A : Type 0} → List Row → NodeView V → List (Arc Row A) → Type 0
AreLacked rows node events = rows_of events ≡ lacking (node_rows node) rows

-- the events are the node's rows from the place on, and the name is that of the last row that it made
pub record IsParcelFrom {V : Type 0} (from : ℕ) (node : NodeView V) (parcel : EventParcel) : Type 0 where
  pub events : rows_of parcel.events.items ≡ drop from (node_rows node)
  pub last : parcel.last ≡ last_name node.start.own (node_rows node)

-- the bytes of the node's rows from the place on, of at most so many
abbrev pub bytes_from : {V : Type 0} → NodeView V → ℕ → ℕ → List (List ℕ)
bytes_from node from most = map spelling (take most (drop from (node_rows node)))

-- these and the bytes of the row at a place; nothing where there is no row
abbrev pub with_bytes_at : List Row → ℕ → List (List ℕ) → Option (List (List ℕ))
with_bytes_at G place rows = option_map (λ (row : Row). rows ++ spelling row ∷ []) (slice_get G place)

-- this is what the share may still decide in the node's graph; none only where it has all its marks
abbrev pub OpensIn : {V : Type 0} → Share → NodeView V → Option Open → Type 0
OpensIn share node opened = Opens (graph_in node) (node_marks node) share opened
