use Rattle.hg_io.proofs.PrintLaws.{failed, puts_then, stops_before, stops_then}
use Rattle.hg_wire.proofs.writing.write_parcel.Goals as goal

pub returns-in_err-write_rows : goal.returns-in_err-write_rows
returns-in_err-write_rows g c = failed _ _ _ _ c.from_residual.ensures.0 (stops_before _ (rw c.as_slice.ensures at c.in_err-write_rows.ensures))

pub returns-in_err-write_last : goal.returns-in_err-write_last
returns-in_err-write_last g c =
    failed _ _ _ _ c.from_residual-in_err-write_last.ensures.0 (stops_then (rw c.as_slice.ensures at c.in_ok-write_rows.ensures) c.in_err-write_last.ensures)

pub returns : goal.returns
returns g c = puts_then (rw c.as_slice.ensures at c.in_ok-write_rows.ensures) c.in_ok-write_last.ensures
