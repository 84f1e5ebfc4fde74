use Rattle.hg_io.proofs.PrintLaws.{failed, more_put, stopped_within}
use Rattle.hg_telling.proofs.LineLaws.{entries_left}
use Rattle.hg_telling.proofs.further.write_entries.Goals as goal

pub loop-entry-preserved : goal.loop-entry-preserved
loop-entry-preserved g c =
    more_put _ _ _ _ _ _ _ (entries_left c.args.entries.now c.loop-entry.entry-index c.entry-item.result c.entry-item.is c.loop-entry-test.true) c.loop-entry.invariant c.in_ok-write_entry.ensures

pub returns-in_err-write_entry : goal.returns-in_err-write_entry
returns-in_err-write_entry g c =
    failed _ _ _ _ c.from_residual.ensures.0 (stopped_within _ _ _ _ _ _ _ (entries_left c.args.entries.now c.loop-entry.entry-index c.entry-item.result c.entry-item.is c.loop-entry-test.true) c.loop-entry.invariant c.in_err-write_entry.ensures)
