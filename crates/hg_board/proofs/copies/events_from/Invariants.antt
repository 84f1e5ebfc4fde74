use Rattle.std.proofs.Common.{◌≡◌, ◌++◌, drop}
use Rattle.hg_life.specs.NodeView.{node_rows}
use Rattle.hg_graph.specs.RowsWithRoom.{rows_of}
use Rattle.hg_board.proofs.copies.events_from.Given as goal

abbrev pub invariant-loop-place : goal.invariant-loop-place
invariant-loop-place g l = rows_of l.events.items ++ drop l.place (node_rows l.node) ≡ drop l.from (node_rows l.node)
