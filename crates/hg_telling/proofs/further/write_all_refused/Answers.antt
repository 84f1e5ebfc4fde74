use Rattle.hg_io.proofs.PrintLaws.{failed, more_put, stopped_within}
use Rattle.hg_telling.proofs.LineLaws.{refused_left}
use Rattle.hg_telling.proofs.further.write_all_refused.Goals as goal

pub loop-event-preserved : goal.loop-event-preserved
loop-event-preserved g c =
    more_put _ _ _ _ _ _ _ (refused_left c.args.events.now c.loop-event.event-index _ c.loop-event-test.true) c.loop-event.invariant c.in_ok-write_refused.ensures

pub returns-in_err-write_refused : goal.returns-in_err-write_refused
returns-in_err-write_refused g c =
    failed _ _ _ _ c.from_residual.ensures.0 (stopped_within _ _ _ _ _ _ _ (refused_left c.args.events.now c.loop-event.event-index _ c.loop-event-test.true) c.loop-event.invariant c.in_err-write_refused.ensures)
