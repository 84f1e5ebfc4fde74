use Rattle.std.proofs.Common.{All, take}
use Rattle.hg_life.specs.NodeView.{IsNode}
use Rattle.hg_life.specs.Signing.{accepts_by}
use Rattle.hg_world.proofs.nodes.see_all.Given as goal

abbrev pub invariant-loop-node : goal.invariant-loop-node
invariant-loop-node l = All (IsNode accepts_by) (take l.node-index l.nodes.items)
