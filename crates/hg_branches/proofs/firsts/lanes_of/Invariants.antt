use Rattle.std.proofs.Common.{◌≡◌, ◌<◌, ℕ, length, slice_index}
use Rattle.hg_branches.proofs.firsts.lanes_of.Given as goal

abbrev pub invariant-loop-i : goal.invariant-loop-i
invariant-loop-i l = record {
  len : length l.lanes ≡ 128;
  each : (k : ℕ) → k < l.i → slice_index l.lanes k ≡ slice_index l.numbers k;
}
