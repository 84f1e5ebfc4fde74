use Rattle.std.proofs.Common.{◌+◌}
use Rattle.hg_graph.specs.RowsWithRoom.{rows_of}
use Rattle.hg_io.proofs.PrintLaws.{failed, more_put, stopped_within}
use Rattle.hg_certify.proofs.Steps.{entries_left}
use Rattle.hg_certify.proofs.printing.write_entries.Goals as goal

pub loop-i-preserved : goal.loop-i-preserved
loop-i-preserved g c =
    more_put _ _ _ _ _ _ _ (entries_left (rows_of c.args.events.now) c.args.order.now (c.loop-i.i + 1) c.loop-i.i _ c.loop-i-test.true) c.loop-i.invariant c.in_ok-write_entry.ensures

pub returns-in_err-write_entry : goal.returns-in_err-write_entry
returns-in_err-write_entry g c =
    failed _ _ _ _ c.from_residual.ensures.0
    (stopped_within _ _ _ _ _ _ _ (entries_left (rows_of c.args.events.now) c.args.order.now (c.loop-i.i + 1) c.loop-i.i _ c.loop-i-test.true) c.loop-i.invariant c.in_err-write_entry.ensures)
