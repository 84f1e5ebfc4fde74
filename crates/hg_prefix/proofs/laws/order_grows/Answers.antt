use Rattle.hg_prefix.proofs.GrowthLaws.{order_of_part, order_grows}
use Rattle.hg_prefix.proofs.laws.order_grows.Goals as goal

pub returns-clause-part : goal.returns-clause-part
returns-clause-part c = order_of_part

pub returns-clause-longer : goal.returns-clause-longer
returns-clause-longer c = order_grows
