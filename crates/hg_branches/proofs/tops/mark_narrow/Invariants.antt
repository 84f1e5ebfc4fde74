use Rattle.std.proofs.Common.{◌≡◌, ◌<◌, ℕ, cond, nat_lt, min, length, slice_index}
use Rattle.hg_branches.proofs.tops.mark_narrow.Given as goal

abbrev pub invariant-loop-c : goal.invariant-loop-c
invariant-loop-c l = record {
  len : length l.news ≡ length l.initial.news;
  each : (b : ℕ) → b < l.c → slice_index l.news b ≡ cond (nat_lt (slice_index l.known b) (min (slice_index l.tops b) (slice_index l.counts b))) 1 0;
}
