use Rattle.std.proofs.Common.{arith}
use Rattle.hg_life.specs.NodeView.{node_rows}
use Rattle.hg_gossip.proofs.RowLaws.{bytes_more}
use Rattle.hg_gossip.proofs.node.rows_outside.Goals as goal

pub loop-place-preserved : goal.loop-place-preserved
loop-place-preserved g c = bytes_more c.args.named.now.keys (node_rows c.args.node.now) c.loop-place.place c.loop-place.rows.items _ _ (omega arith) c.in_ok-push_unless_named.ensures c.loop-place.invariant
