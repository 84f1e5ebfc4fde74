use Rattle.std.proofs.Common.{◌≡◌, length, take}
use Rattle.std.specs.Prelude.{fold}
use Rattle.hg_storm.specs.Storm.{after_settling}
use Rattle.hg_storm.proofs.gathering.settle_each.Given as goal

abbrev pub invariant-loop-member : goal.invariant-loop-member
invariant-loop-member l = record {
  sites : length l.world.sites ≡ length l.initial.world.sites;
  settled : l.world ≡ fold after_settling l.initial.world (take l.member-index l.circle);
}
