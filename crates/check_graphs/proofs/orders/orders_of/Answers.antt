use Rattle.std.proofs.Common.{◌∙◌, ◌++◌, ◌∷◌, [], List, ap₂, sym, zero-add}
use Rattle.std.proofs.lemmas.List.FromFn.{map-range_with_len_more}
use Rattle.hg_model.specs.Order.{Ordered}
use Rattle.hg_world.specs.World.{node_at}
use Rattle.check_graphs.specs.Orders.{kept_order}
use Rattle.check_graphs.proofs.orders.orders_of.Goals as goal

pub loop-member-preserved : goal.loop-member-preserved
loop-member-preserved c =
    c.in_ok-push.ensures.items
    ∙ (ap₂ (λ (before : List (List Ordered)) (last : List Ordered). before ++ last ∷ []) c.loop-member.invariant c.in_ok-order_at.ensures
    ∙ sym (map-range_with_len_more (λ m. kept_order (node_at c.args.world.now m)) 0 c.loop-member.member c.loop-member.member (zero-add c.loop-member.member)))
