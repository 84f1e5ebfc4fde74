use Rattle.std.proofs.Common.{◌≡◌, take}
use Rattle.hg_life.specs.NodeView.{node_rows}
use Rattle.check_graphs.proofs.plain.rows_of.Given as goal

abbrev pub invariant-loop-place : goal.invariant-loop-place
invariant-loop-place l = l.rows.items ≡ take l.place (node_rows l.node)
