use Rattle.std.proofs.Common.{◌≡◌, ◌<◌, ◌≤◌, ℕ, max, length, slice_index}
use Rattle.hg_branches.proofs.own_counts.raise_lanes.Given as goal

abbrev pub invariant-loop-i : goal.invariant-loop-i
invariant-loop-i l = record {
  len : length l.row ≡ length l.initial.row;
  done : (k : ℕ) → k < l.i → slice_index l.row k ≡ max (slice_index l.initial.row k) (slice_index l.others k);
  left : (k : ℕ) → l.i ≤ k → slice_index l.row k ≡ slice_index l.initial.row k;
}
