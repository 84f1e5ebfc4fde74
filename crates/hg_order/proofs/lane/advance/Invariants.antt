use Rattle.hg_model.specs.Links.{creator}
use Rattle.hg_order.specs.Swept.{IsAdvanced, lines_from}
use Rattle.hg_order.proofs.SweepLaws.{way_left}
use Rattle.std.proofs.Common.{◌+◌, ◌-◌, length}
use Rattle.hg_order.proofs.lane.advance.Given as goal

abbrev pub invariant-loop-lane : goal.invariant-loop-lane
invariant-loop-lane g l = let L = (g.S.Sight.shape l.sight).links in
    IsAdvanced L l.course.bound (lines_from l.course.low l.last) l.course.low l.course.need l.course.time (creator L (l.fn.start.next - 1)) l.fn.start.next l.lane.next l.lane.above l.fn.timers l.timers

abbrev pub decreases-loop-lane : goal.decreases-loop-lane
decreases-loop-lane g l = way_left (l.course.low + length l.timers) l.lane.next
