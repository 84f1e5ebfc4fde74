use Rattle.std.proofs.Common.{◌≡◌, ◌<◌, ◌≤◌, ℕ, slice_index}
use Rattle.hg_order.specs.Swept.{AreAdvanced, ends_from, lines_from}
use Rattle.hg_order.proofs.sweep.advance_lanes.Given as goal

abbrev pub invariant-loop-m : goal.invariant-loop-m
invariant-loop-m g l = record {
  advanced : AreAdvanced (g.S.Sight.shape l.sight).links l.wanted.least (lines_from l.wanted.low l.fn.lanes.last.items) l.wanted.low l.wanted.need l.time (ends_from l.wanted.low l.fn.lanes.next) (ends_from l.wanted.low l.lanes.next) l.lanes.above l.fn.timers l.timers;
  few : (j : ℕ) → j < l.m → slice_index l.lanes.above j < l.wanted.need;
  same : (j : ℕ) → l.m ≤ j → slice_index l.lanes.next j ≡ slice_index l.fn.lanes.next j;
  last : l.lanes.last ≡ l.fn.lanes.last;
}
