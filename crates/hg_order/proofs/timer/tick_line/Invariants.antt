use Rattle.hg_order.proofs.TimerLaws.{IsWalked}
use Rattle.hg_order.proofs.timer.tick_line.Given as goal

abbrev pub invariant-loop-end : goal.invariant-loop-end
invariant-loop-end g l = IsWalked (g.S.Sight.shape l.sight).links l.bottom l.top l.low l.time l.fn.timers l.end l.timers

abbrev pub decreases-loop-end : goal.decreases-loop-end
decreases-loop-end g l = l.end
