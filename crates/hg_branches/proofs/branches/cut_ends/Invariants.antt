use Rattle.std.proofs.Common.{◌≡◌, ◌<◌, ◌≤◌, ℕ, min, length, slice_index}
use Rattle.hg_branches.proofs.branches.cut_ends.Given as goal

abbrev pub invariant-loop-b : goal.invariant-loop-b
invariant-loop-b l = record {
  len : length l.ends ≡ length l.initial.ends;
  done : (b : ℕ) → b < l.b → slice_index l.ends b ≡ min (slice_index l.initial.ends b) l.len;
  left : (b : ℕ) → l.b ≤ b → slice_index l.ends b ≡ slice_index l.initial.ends b;
}
