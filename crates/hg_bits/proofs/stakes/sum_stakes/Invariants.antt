use Rattle.std.proofs.Common.{◌≡◌, ◌≤◌, ◌*◌, true}
use Rattle.hg_model.specs.Places.{weight_below}
use Rattle.hg_model.specs.Stakes.{stake_of}
use Rattle.hg_bits.proofs.stakes.sum_stakes.Given as goal

abbrev pub invariant-loop-m : goal.invariant-loop-m
invariant-loop-m l = record {
  sum : l.sum ≡ weight_below (stake_of l.stakes) l.m (λ _. true);
  low : l.sum ≤ 4294967295 * l.m;
}
