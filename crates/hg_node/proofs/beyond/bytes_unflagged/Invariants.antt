use Rattle.std.proofs.Common.{◌≡◌}
use Rattle.hg_node.specs.Beyond.{bytes_at, list_unflagged}
use Rattle.hg_node.proofs.beyond.bytes_unflagged.Given as goal

abbrev pub invariant-loop-x : goal.invariant-loop-x
invariant-loop-x l = l.rows.items ≡ list_unflagged (bytes_at l.graph.graph.rows) l.x l.flags
