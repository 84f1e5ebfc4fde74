use Rattle.std.proofs.Common.{◌<◌, ◌≤◌, ℕ, length, take, slice_index}
use Rattle.hg_order.specs.Counted.{JustBelow}
use Rattle.hg_order.specs.Timers.{is_on_some_line}
use Rattle.hg_order.proofs.line_rows.raise_ends.Given as goal

abbrev pub invariant-loop-w : goal.invariant-loop-w
invariant-loop-w g l = let L = (g.S.Sight.shape l.sight).links in record {
  just : JustBelow L l.ends (is_on_some_line L (take l.w-index l.places));
  below : (k : ℕ) → k < l.w-index → slice_index l.places k < l.last;
  within : (m : ℕ) → slice_index l.ends m ≤ l.last;
  end : l.last ≤ length L;
}
