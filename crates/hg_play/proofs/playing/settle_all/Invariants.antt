use Rattle.std.proofs.Common.{◌≡◌, length}
use Rattle.hg_world.specs.Steps.{after_steps}
use Rattle.hg_play.specs.Play.{end_steps}
use Rattle.hg_play.specs.Summaries.{SettledBelow}
use Rattle.hg_play.proofs.playing.settle_all.Given as goal

abbrev pub invariant-loop-member : goal.invariant-loop-member
invariant-loop-member l = record {
  sites : length l.world.sites ≡ length l.initial.world.sites;
  after : l.world ≡ after_steps l.initial.world (end_steps l.members l.member);
  settled : SettledBelow l.members l.member l.initial.world l.world;
}
