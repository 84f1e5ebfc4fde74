use Rattle.std.proofs.Common.{take}
use Rattle.hg_order.specs.Timers.{AreTickedByAll}
use Rattle.hg_order.proofs.timer.tick_slice.Given as goal

abbrev pub invariant-loop-line_row : goal.invariant-loop-line_row
invariant-loop-line_row g l = AreTickedByAll (g.S.Sight.shape l.sight).links l.wanted.least l.wanted.low (take l.line_row-index l.line_rows) l.fn.timers l.timers
