use Rattle.hg_io.proofs.PrintLaws.{failed, more_put, stopped_within}
use Rattle.hg_telling.proofs.DigitLaws.{lines_left}
use Rattle.hg_telling.proofs.digits.write_names.Goals as goal

pub loop-name-preserved : goal.loop-name-preserved
loop-name-preserved g c =
    more_put _ _ _ _ _ _ _ (lines_left c.args.names.now c.loop-name.name-index _ c.loop-name-test.true) c.loop-name.invariant c.in_ok-write_name.ensures

pub returns-in_err-write_name : goal.returns-in_err-write_name
returns-in_err-write_name g c =
    failed _ _ _ _ c.from_residual.ensures.0
    (stopped_within _ _ _ _ _ _ _ (lines_left c.args.names.now c.loop-name.name-index _ c.loop-name-test.true) c.loop-name.invariant c.in_err-write_name.ensures)
