use Rattle.std.proofs.Common.{length, arith}
use Rattle.hg_life.specs.NodeView.{NodeView}
use Rattle.hg_world.specs.World.{Secrets}
use Rattle.hg_storm.proofs.WorldLaws.{mapped_all, mapped_more}
use Rattle.hg_storm.proofs.storming.lengths.Goals as goal

pub loop-node-preserved : goal.loop-node-preserved
loop-node-preserved c =
    mapped_more (λ (v : NodeView Secrets). length v.history) c.args.nodes.now c.loop-node.node-index c.node-item.result c.changes.result c.loop-node.lengths.items c.push.new.self.items (omega arith) c.node-item.is
    c.loop-node.invariant c.changes.ensures c.in_ok-push.ensures.items

pub returns : goal.returns
returns c = mapped_all (λ (v : NodeView Secrets). length v.history) c.args.nodes.now c.loop-node.node-index c.loop-node.lengths.items (omega arith) c.loop-node.invariant
