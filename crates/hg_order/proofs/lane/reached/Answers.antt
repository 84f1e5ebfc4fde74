use Rattle.hg_order.proofs.FromLaws.{reached_as}
use Rattle.hg_order.proofs.lane.reached.Goals as goal

pub returns : goal.returns
returns g c = reached_as _ c.args.low c.args.x _ _ c.args.last.now c.requires.from c.creator.ensures.value c.count_above.ensures
