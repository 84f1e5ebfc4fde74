use Rattle.hg_storm.proofs.WorldLaws.{pulled_members}
use Rattle.hg_storm.proofs.gathering.gather.Goals as goal

pub settle_each-requires : goal.settle_each-requires
settle_each-requires c = pulled_members c.args.world.now c.pull_each.new.world c.args.circle.now c.in_ok-pull_each.ensures c.requires
