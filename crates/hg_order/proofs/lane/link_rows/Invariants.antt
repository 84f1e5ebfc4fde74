use Rattle.std.proofs.Common.{◌≡◌, ◌<◌, ◌≤◌, ◌+◌, ℕ, length, slice_index}
use Rattle.hg_model.specs.Links.{creator}
use Rattle.hg_order.specs.Timers.{timer_at}
use Rattle.hg_order.specs.Swept.{IsNextFrom, ends_from}
use Rattle.hg_order.proofs.lane.link_rows.Given as goal

abbrev pub invariant-loop-x : goal.invariant-loop-x
invariant-loop-x g l = let L = (g.S.Sight.shape l.sight).links in record {
  from : l.low ≤ l.x;
  to : l.x ≤ l.low + length l.timers;
  linked : (k : ℕ) → k < length l.timers → l.x ≤ l.low + k → IsNextFrom L (l.low + length l.fn.timers) (creator L (l.low + k)) (l.low + k + 1) (timer_at l.timers k).left;
  first : (m : ℕ) → IsNextFrom L (l.low + length l.fn.timers) m l.x (slice_index (ends_from l.low l.next) m);
  long : length l.timers ≡ length l.fn.timers;
  wide : length l.next ≡ 128;
}

abbrev pub decreases-loop-x : goal.decreases-loop-x
decreases-loop-x g l = l.x
