use Rattle.hg_io.proofs.PrintLaws.{failed, puts_then, stops_before, stops_then}
use Rattle.hg_wire.specs.Grammar.{parcel_bytes}
use Rattle.hg_wire.proofs.writing.put_rows.Goals as goal

pub returns-in_err-put : goal.returns-in_err-put
returns-in_err-put g c =
    failed _ _ _ _ c.from_residual.ensures.0 (stops_before (parcel_bytes c.args.parcel.now) (rw (c.head_of.ensures, c.as_slice.ensures) at c.in_err-put.ensures.puts))

pub returns-in_err-write_parcel : goal.returns-in_err-write_parcel
returns-in_err-write_parcel g c =
    failed _ _ _ _ c.from_residual-in_err-write_parcel.ensures.0 (stops_then (rw (c.head_of.ensures, c.as_slice.ensures) at c.in_ok-put.ensures.puts) c.in_err-write_parcel.ensures)

pub returns : goal.returns
returns g c = puts_then (rw (c.head_of.ensures, c.as_slice.ensures) at c.in_ok-put.ensures.puts) c.in_ok-write_parcel.ensures
