use Rattle.std.proofs.Common.{◌≡◌, ◌<◌, ◌≤◌, ◌+◌, ◌-◌, ℕ, cond, length, slice_index}
use Rattle.hg_order.specs.Swept.{is_next_gained}
use Rattle.hg_order.proofs.lane.gain_narrow.Given as goal

abbrev pub invariant-loop-m : goal.invariant-loop-m
invariant-loop-m l = record {
  gained : (j : ℕ) → j < l.m → slice_index l.above j ≡ slice_index l.fn.above j + cond (is_next_gained (slice_index l.fn.last j) (slice_index l.counts j - l.low) (slice_index l.next j)) 1 0;
  line : (j : ℕ) → j < l.m → slice_index l.last j ≡ slice_index l.counts j - l.low;
  old : (j : ℕ) → l.m ≤ j → slice_index l.last j ≡ slice_index l.fn.last j;
  rest : (j : ℕ) → l.m ≤ j → slice_index l.above j ≡ slice_index l.fn.above j;
  most : (j : ℕ) → j < l.m → slice_index l.above j ≤ l.most;
  lines : length l.last ≡ length l.fn.last;
}
