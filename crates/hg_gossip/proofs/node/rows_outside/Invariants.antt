use Rattle.std.proofs.Common.{◌≡◌, ◌++◌, drop, map}
use Rattle.hg_life.specs.Spelling.{spelling}
use Rattle.hg_life.specs.NodeView.{node_rows}
use Rattle.hg_gossip.specs.Holding.{unnamed}
use Rattle.hg_gossip.proofs.node.rows_outside.Given as goal

abbrev pub invariant-loop-place : goal.invariant-loop-place
invariant-loop-place g l = l.rows.items ++ map spelling (unnamed l.named.keys (drop l.place (node_rows l.node))) ≡ map spelling (unnamed l.named.keys (node_rows l.node))
