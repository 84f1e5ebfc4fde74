use Rattle.std.proofs.Common.{◌≡◌, length, take}
use Rattle.hg_storm.specs.Storm.{after_pulls, pulls_from}
use Rattle.hg_storm.proofs.gathering.pull_from.Given as goal

abbrev pub invariant-loop-taker : goal.invariant-loop-taker
invariant-loop-taker l = record {
  sites : length l.world.sites ≡ length l.initial.world.sites;
  pulls : l.world ≡ after_pulls l.initial.world (take l.taker-index (pulls_from l.first l.rest));
}
