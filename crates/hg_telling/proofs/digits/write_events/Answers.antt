use Rattle.hg_io.proofs.PrintLaws.{failed, more_put, stopped_within}
use Rattle.hg_telling.proofs.DigitLaws.{lines_left_of}
use Rattle.hg_telling.proofs.digits.write_events.Goals as goal

pub loop-event-preserved : goal.loop-event-preserved
loop-event-preserved g c =
    more_put _ _ _ _ _ _ _ (lines_left_of c.args.events.now c.loop-event.event-index c.event-item.result c.event-item.is c.loop-event-test.true) c.loop-event.invariant c.in_ok-write_event.ensures

pub returns-in_err-write_event : goal.returns-in_err-write_event
returns-in_err-write_event g c =
    failed _ _ _ _ c.from_residual.ensures.0
    (stopped_within _ _ _ _ _ _ _ (lines_left_of c.args.events.now c.loop-event.event-index c.event-item.result c.event-item.is c.loop-event-test.true) c.loop-event.invariant c.in_err-write_event.ensures)
