use Rattle.hg_life.specs.NodeView.{node_rows}
use Rattle.hg_gossip.proofs.RowLaws.{names_more}
use Rattle.hg_gossip.proofs.node.names.Goals as goal

pub loop-place-preserved : goal.loop-place-preserved
loop-place-preserved g c = names_more (node_rows c.args.node.now) c.loop-place.place _ c.loop-place.names.items _ c.row.ensures c.loop-place.invariant c.in_ok-push.ensures.items
