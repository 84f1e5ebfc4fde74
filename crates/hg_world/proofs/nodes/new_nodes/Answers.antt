use Rattle.std.proofs.Common.{◌∙◌, ◌++◌, ◌∷◌, [], List, ap₂, sym, zero-add}
use Rattle.std.proofs.lemmas.List.FromFn.{map-range_with_len_more}
use Rattle.hg_life.specs.NodeView.{NodeView}
use Rattle.hg_world.specs.World.{Secrets, new_node}
use Rattle.hg_world.proofs.nodes.new_nodes.Goals as goal

pub loop-own-preserved : goal.loop-own-preserved
loop-own-preserved c =
    c.in_ok-push.ensures.items
    ∙ (ap₂ (λ (before : List (NodeView Secrets)) (last : NodeView Secrets). before ++ last ∷ []) c.loop-own.invariant c.in_ok-new_node.ensures
    ∙ sym (map-range_with_len_more (new_node c.args.members.now) 0 c.loop-own.own c.loop-own.own (zero-add c.loop-own.own)))
