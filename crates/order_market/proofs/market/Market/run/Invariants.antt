use Rattle.std.proofs.Common.{◌≡◌, take}
use Rattle.order_market.specs.Market.{after_actions}
use Rattle.order_market.proofs.market.Market.run.Given as goal

abbrev pub invariant-loop-action : goal.invariant-loop-action
invariant-loop-action l = l.market ≡ after_actions l.fn.self (take l.action-index l.actions)
