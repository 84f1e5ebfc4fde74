use Rattle.std.proofs.Common.{◌∙◌, All, List, ap, get_or, subst, sym, take, arith}
use Rattle.std.proofs.lemmas.List.{take_all}
use Rattle.std.proofs.lemmas.List.Elements.{All-push}
use Rattle.hg_life.specs.NodeView.{NodeView, IsNode}
use Rattle.hg_life.specs.Signing.{accepts_by}
use Rattle.hg_world.specs.World.{Secrets}
use Rattle.hg_world.proofs.StepLaws.{taken_more}
use Rattle.hg_world.proofs.nodes.see_all.Goals as goal

pub loop-node-preserved : goal.loop-node-preserved
loop-node-preserved c =
    subst (All (IsNode accepts_by)) (sym (taken_more c.args.nodes.now.items c.loop-node.node-index c.node-item.result (omega arith)
    (c.node-item.is ∙ ap (λ (nodes : List (NodeView Secrets)). get_or nodes c.loop-node.node-index c.node-item.result) c.deref-node-items.ensures.value)))
    (All-push (IsNode accepts_by) (take c.loop-node.node-index c.args.nodes.now.items) c.node-item.result c.loop-node.invariant c.is_node.ensures)

pub returns : goal.returns
returns c = subst (All (IsNode accepts_by)) (take_all c.loop-node.node-index c.args.nodes.now.items (omega arith)) c.loop-node.invariant
