-- A graph with its own fame as marks
use Rattle.std.proofs.Common.{◌≡◌, ℕ, List, refl}
use Rattle.hg_model.specs.declared.row.Row.{Row}
use Rattle.hg_model.specs.Stakes.{Stakes}
use Rattle.hg_model.specs.Links.{links}
use Rattle.hg_model.specs.Graph.{IsGraph}
use Rattle.hg_model.specs.Fame.{fame_marks}
use Rattle.hg_model.specs.Order.{coin_at, order_of, order_by_names}
use Rattle.hg_model.specs.Orders.{marked_order_by_names, AreFame}
use Rattle.hg_agree.proofs.LateLaws.{fame_of_mark}
use Rattle.hg_prefix.specs.Standing.{StandsIn, IsMarkedPart}
use Rattle.hg_prefix.specs.Laws.{OwnOrdersArePrefixes}
use Rattle.hg_prefix.proofs.OrderLaws.{one_order}

pub own_fame : (n : Stakes) (c : ℕ) (G : List Row) → AreFame n c G (fame_marks n c (links G) (coin_at G))
own_fame n c G = record { fame = fame_of_mark n c (links G) (coin_at G) }

pub own_part : (n : Stakes) (c : ℕ) (U G : List Row) → IsGraph n G → StandsIn G U → IsMarkedPart n c U G (fame_marks n c (links G) (coin_at G))
own_part n c U G g stands = record { graph = g; stands = stands; fame = own_fame n c G }

pub own_order : (n : Stakes) (c : ℕ) (G : List Row) → order_by_names n c G ≡ marked_order_by_names n G (fame_marks n c (links G) (coin_at G))
unfolding order_of
own_order n c G = refl

pub own_orders : OwnOrdersArePrefixes
own_orders n c size U G H u three g stands_G h stands_H sizes_G sizes_H =
    rw (own_order n c G, own_order n c H)
    (one_order n c size U u three G H (fame_marks n c (links G) (coin_at G)) (fame_marks n c (links H) (coin_at H)) (own_part n c U G g stands_G) (own_part n c U H h stands_H) sizes_G sizes_H)
