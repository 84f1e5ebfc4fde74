use Rattle.hg_model.specs.Counts.{numbers_of}
use Rattle.hg_order.proofs.TimerLaws.{is_between_under}
use Rattle.hg_order.specs.Timers.{AreTicked}
use Rattle.hg_order.proofs.timer.tick_between.Given as goal

abbrev pub invariant-loop-m : goal.invariant-loop-m
invariant-loop-m g l = AreTicked l.wanted.low l.time (is_between_under (g.S.Sight.shape l.sight).links (numbers_of l.before) (numbers_of l.counts) l.wanted.least l.m) l.fn.timers l.timers
