use Rattle.hg_io.proofs.PrintLaws.{failed, puts_then, stops_before, stops_then}
use Rattle.hg_certify.proofs.printing.write_text.Goals as goal

pub returns-in_err-write_head : goal.returns-in_err-write_head
returns-in_err-write_head g c = failed _ _ _ _ c.from_residual.ensures.0 (stops_before _ c.in_err-write_head.ensures)

pub returns-in_err-write_entries : goal.returns-in_err-write_entries
returns-in_err-write_entries g c =
    failed _ _ _ _ c.from_residual-in_err-write_entries.ensures.0
    (stops_then c.in_ok-write_head.ensures (rw (c.events.ensures, c.order.ensures) at c.in_err-write_entries.ensures))

pub returns : goal.returns
returns g c = puts_then c.in_ok-write_head.ensures (rw (c.events.ensures, c.order.ensures) at c.in_ok-write_entries.ensures)
