use Rattle.order_market.proofs.GrowthLaws.{behind_after}
use Rattle.order_market.proofs.market.Market.with.Goals as goal

pub read_all-requires : goal.read_all-requires
read_all-requires c = behind_after _ _ c.args.action.now _ c.in_ok-act.ensures c.is_world.ensures.world c.self.invariant
