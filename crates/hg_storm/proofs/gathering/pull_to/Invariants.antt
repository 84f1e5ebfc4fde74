use Rattle.std.proofs.Common.{◌≡◌, length, take}
use Rattle.hg_storm.specs.Storm.{after_pulls, pulls_to}
use Rattle.hg_storm.proofs.gathering.pull_to.Given as goal

abbrev pub invariant-loop-peer : goal.invariant-loop-peer
invariant-loop-peer l = record {
  sites : length l.world.sites ≡ length l.initial.world.sites;
  pulls : l.world ≡ after_pulls l.initial.world (take l.peer-index (pulls_to l.first l.rest));
}
