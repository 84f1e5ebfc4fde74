use Rattle.hg_io.proofs.PrintLaws.{failed, more_put, stopped_within}
use Rattle.hg_wire.proofs.Parts.{parts_left}
use Rattle.hg_wire.proofs.writing.write_names.Goals as goal

pub loop-name-preserved : goal.loop-name-preserved
loop-name-preserved g c =
    more_put _ _ _ _ _ _ _ (parts_left c.args.names.now c.loop-name.name-index _ c.loop-name-test.true) c.loop-name.invariant c.in_ok-put.ensures.puts

pub returns-in_err-put : goal.returns-in_err-put
returns-in_err-put g c =
    failed _ _ _ _ c.from_residual.ensures.0
    (stopped_within _ _ _ _ _ _ _ (parts_left c.args.names.now c.loop-name.name-index _ c.loop-name-test.true) c.loop-name.invariant c.in_err-put.ensures.puts)
