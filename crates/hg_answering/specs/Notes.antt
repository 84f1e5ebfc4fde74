-- What is noted of a node, so that no request walks over all of its rows
use Rattle.std.specs.Prelude.{◌≡◌, ◌≤◌, length}
use Rattle.hg_life.specs.Members.{MemberList, stakes_of}
use Rattle.hg_life.specs.NodeView.{NodeView, kept_of, node_rows}
use Rattle.hg_node.specs.ChronicleView.{graph_in}
use Rattle.hg_service.specs.Binding.{bound_payload}
use Rattle.hg_answering.specs.OrderNotes.{first_ordered, order_notes_of}
use Rattle.hg_answering.specs.RowNotes.{AreFirst, notes_of}
use Rattle.hg_answering.specs.declared.notes.Notes.{Notes}

-- the node began with these members, and this is noted of it
pub record AreNoted {K : Type 0} (members : MemberList) (v : NodeView K) (notes : Notes) : Type 0 where
  pub begun : v.start.members ≡ stakes_of members
  pub bound : notes.bound ≡ bound_payload members
  pub rows : notes.rows ≡ notes_of (bound_payload members) (length members.entries) (node_rows v)
  pub order : notes.order ≡ order_notes_of (node_rows v) (kept_of v)

-- the same of as many first rows and entries of the order as have been looked at
pub record AreLagging {K : Type 0} (members : MemberList) (v : NodeView K) (notes : Notes) : Type 0 where
  pub begun : v.start.members ≡ stakes_of members
  pub bound : notes.bound ≡ bound_payload members
  pub rows : AreFirst (bound_payload members) (graph_in v) notes.rows
  pub within : notes.order.ordered ≤ length (kept_of v)
  pub order : notes.order ≡ first_ordered (node_rows v) (kept_of v) notes.order.ordered
