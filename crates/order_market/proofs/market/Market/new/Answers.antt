use Rattle.order_market.proofs.ReadLaws.{none_behind}
use Rattle.order_market.proofs.market.Market.new.Goals as goal

pub read_all-requires : goal.read_all-requires
read_all-requires c = none_behind _ _ _ c.in_ok-books.ensures c.members.ensures.value
