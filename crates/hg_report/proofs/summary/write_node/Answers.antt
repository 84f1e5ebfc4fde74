use Rattle.hg_io.proofs.PrintLaws.{failed, puts_then, stops_before, stops_then}
use Rattle.hg_report.proofs.summary.write_node.Goals as goal

pub returns-in_err-write_head : goal.returns-in_err-write_head
returns-in_err-write_head g c =
    failed _ _ _ _ c.from_residual.ensures.0 (stops_before _ (stops_before _ (rw c.head.ensures at c.in_err-write_head.ensures)))

pub returns-in_err-write_digest : goal.returns-in_err-write_digest
returns-in_err-write_digest g c =
    failed _ _ _ _ c.from_residual-in_err-write_digest.ensures.0
    (stops_before _ (stops_then (rw c.head.ensures at c.in_ok-write_head.ensures) c.in_err-write_digest.ensures))

pub returns-in_err-write_total : goal.returns-in_err-write_total
returns-in_err-write_total g c =
    failed _ _ _ _ c.from_residual-in_err-write_total.ensures.0
    (stops_then (puts_then (rw c.head.ensures at c.in_ok-write_head.ensures) c.in_ok-write_digest.ensures) c.in_err-write_total.ensures)

pub returns : goal.returns
returns g c = puts_then (puts_then (rw c.head.ensures at c.in_ok-write_head.ensures) c.in_ok-write_digest.ensures) c.in_ok-write_total.ensures
