use Rattle.std.proofs.Common.{◌≡◌, take}
use Rattle.order_match.specs.Matching.{met}
use Rattle.order_match.proofs.matching.met.Given as goal

abbrev pub invariant-loop-order : goal.invariant-loop-order
invariant-loop-order l = l.matched ≡ met l.side l.taker (take l.order-index l.resting)
