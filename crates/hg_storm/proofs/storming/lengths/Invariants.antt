use Rattle.std.proofs.Common.{◌≡◌, length, map, take}
use Rattle.hg_life.specs.NodeView.{NodeView}
use Rattle.hg_world.specs.World.{Secrets}
use Rattle.hg_storm.proofs.storming.lengths.Given as goal

abbrev pub invariant-loop-node : goal.invariant-loop-node
invariant-loop-node l = l.lengths.items ≡ map (λ (v : NodeView Secrets). length v.history) (take l.node-index l.nodes)
