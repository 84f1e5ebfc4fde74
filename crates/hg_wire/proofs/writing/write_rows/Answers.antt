use Rattle.std.proofs.Common.{arith}
use Rattle.hg_io.proofs.PrintLaws.{failed, more_put, stopped_within}
use Rattle.hg_wire.proofs.Parts.{part_left}
use Rattle.hg_wire.proofs.writing.write_rows.Goals as goal

pub loop-row-preserved : goal.loop-row-preserved
loop-row-preserved g c =
    more_put _ _ _ c.row-item.result _ _ _ (part_left c.args.rows.now c.loop-row.row-index c.row-item.result (omega arith) c.row-item.is) c.loop-row.invariant c.in_ok-write_row.ensures

pub returns-in_err-write_row : goal.returns-in_err-write_row
returns-in_err-write_row g c =
    failed _ _ _ _ c.from_residual.ensures.0
    (stopped_within _ _ _ c.row-item.result _ _ _ (part_left c.args.rows.now c.loop-row.row-index c.row-item.result (omega arith) c.row-item.is) c.loop-row.invariant c.in_err-write_row.ensures)
