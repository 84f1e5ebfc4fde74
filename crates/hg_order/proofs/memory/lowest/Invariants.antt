use Rattle.std.proofs.Common.{◌<◌, ◌≤◌, ℕ, slice_index}
use Rattle.hg_order.proofs.memory.lowest.Given as goal

abbrev pub invariant-loop-x : goal.invariant-loop-x
invariant-loop-x l = record {
  first : l.low ≤ l.first;
  all : (k : ℕ) → k < l.x-index → l.low ≤ slice_index l.places k;
}
