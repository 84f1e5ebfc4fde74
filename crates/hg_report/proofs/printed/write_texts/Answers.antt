use Rattle.hg_io.proofs.PrintLaws.{failed, more_put, stopped_within}
use Rattle.hg_report.proofs.Steps.{texts_left}
use Rattle.hg_report.proofs.printed.write_texts.Goals as goal

pub loop-printed-preserved : goal.loop-printed-preserved
loop-printed-preserved g c =
    more_put _ _ _ _ _ _ _ (texts_left c.args.names.now c.args.texts.now c.loop-printed.printed-index c.printed-item.result c.printed-item.is c.loop-printed-test.true) c.loop-printed.invariant c.in_ok-write_printed.ensures

pub returns-in_err-write_printed : goal.returns-in_err-write_printed
returns-in_err-write_printed g c =
    failed _ _ _ _ c.from_residual.ensures.0
    (stopped_within _ _ _ _ _ _ _ (texts_left c.args.names.now c.args.texts.now c.loop-printed.printed-index c.printed-item.result c.printed-item.is c.loop-printed-test.true) c.loop-printed.invariant c.in_err-write_printed.ensures)
