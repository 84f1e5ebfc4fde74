use Rattle.std.proofs.Common.{◌≡◌}
use Rattle.hg_model.specs.Places.{table}
use Rattle.hg_world.specs.World.{node_at}
use Rattle.check_graphs.specs.Orders.{kept_order}
use Rattle.check_graphs.proofs.orders.orders_of.Given as goal

abbrev pub invariant-loop-member : goal.invariant-loop-member
invariant-loop-member l = l.orders.items ≡ table (λ m. kept_order (node_at l.world m)) l.member
