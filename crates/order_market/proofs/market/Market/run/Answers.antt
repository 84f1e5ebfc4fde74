use Rattle.std.proofs.Common.{subst}
use Rattle.order_market.specs.Market.{AreOneBook}
use Rattle.order_market.proofs.SafeLaws.{one_book}
use Rattle.order_market.proofs.market.Market.run.Goals as goal

pub returns-clause-safe : goal.returns-clause-safe
returns-clause-safe c = subst AreOneBook c.market.view_is (one_book _ c.is_world.ensures.world c.is_world.ensures.safe)
