use Rattle.std.proofs.Common.{◌≡◌, take}
use Rattle.hg_life.specs.NodeView.{node_rows}
use Rattle.hg_gossip.specs.Holding.{row_names}
use Rattle.hg_gossip.proofs.node.names.Given as goal

abbrev pub invariant-loop-place : goal.invariant-loop-place
invariant-loop-place g l = l.names.items ≡ row_names (take l.place (node_rows l.node))
