use Rattle.std.proofs.Common.{◌≡◌, take, length}
use Rattle.hg_model.specs.Stakes.{member_count}
use Rattle.hg_order.specs.Swept.{AreLast, IsSweptOver, lines_from}
use Rattle.hg_order.proofs.sweep.sweep_lanes.Given as goal

abbrev pub invariant-loop-line_row : goal.invariant-loop-line_row
invariant-loop-line_row g l = let s = g.S.Sight.shape l.sight in record {
  swept : IsSweptOver s l.wanted (take l.line_row-index l.line_rows) l.lanes l.timers;
  last : AreLast s.links l.wanted.low (lines_from l.wanted.low l.lanes.last.items);
  members : length l.lanes.last.items ≡ member_count s.members;
  long : length l.timers ≡ length l.fn.timers;
}
