use Rattle.std.proofs.Common.{◌≡◌, take, not}
use Rattle.std.specs.List.{filter}
use Rattle.order_match.specs.Books.{is_own}
use Rattle.order_match.proofs.side.others.Given as goal

abbrev pub invariant-loop-order : goal.invariant-loop-order
invariant-loop-order l = l.kept.items ≡ filter (λ o. not (is_own l.member l.number o)) (take l.order-index l.orders)
