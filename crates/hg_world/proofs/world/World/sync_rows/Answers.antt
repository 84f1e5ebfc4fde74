use Rattle.hg_world.specs.Syncs.{pull_steps}
use Rattle.hg_world.proofs.StepLaws.{still_member}
use Rattle.hg_world.proofs.world.World.sync_rows.Goals as goal

pub make_after-requires : goal.make_after-requires
make_after-requires c = still_member c.args.self.now c.pull_rows.new.self (pull_steps c.args.self.now c.args.taker c.args.peer) c.args.taker c.in_ok-counts.ensures.ok.after c.requires.taker
