use Rattle.std.proofs.Common.{◌≡◌, take}
use Rattle.std.specs.List.{filter}
use Rattle.order_match.specs.Books.{is_own}
use Rattle.order_match.proofs.side.owned.Given as goal

abbrev pub invariant-loop-order : goal.invariant-loop-order
invariant-loop-order l = l.own.items ≡ filter (is_own l.member l.number) (take l.order-index l.orders)
