use Rattle.std.proofs.Common.{◌≡◌}
use Rattle.hg_model.specs.Graph.{name_at}
use Rattle.hg_node.specs.Beyond.{list_unflagged}
use Rattle.hg_node.proofs.beyond.names_unflagged.Given as goal

abbrev pub invariant-loop-x : goal.invariant-loop-x
invariant-loop-x l = l.names.items ≡ list_unflagged (name_at l.graph.graph.rows) l.x l.flags
