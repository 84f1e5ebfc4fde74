use Rattle.std.proofs.Common.{◌≡◌, map, take}
use Rattle.hg_model.specs.Order.{named_in}
use Rattle.hg_life.specs.NodeView.{node_rows}
use Rattle.check_graphs.proofs.orders.order_of.Given as goal

abbrev pub invariant-loop-x : goal.invariant-loop-x
invariant-loop-x l = l.order.items ≡ map (named_in (node_rows l.node)) (take l.x l.kept)
