use Rattle.hg_io.proofs.PrintLaws.{failed, puts_then, stops_before, stops_then}
use Rattle.hg_telling.proofs.further.write_ordered.Goals as goal

pub returns-in_err-write_ordered_front : goal.returns-in_err-write_ordered_front
returns-in_err-write_ordered_front g c =
    failed _ _ _ _ c.from_residual.ensures.0 (stops_before _ (stops_before _ (stops_before _ c.in_err-write_ordered_front.ensures)))

pub returns-in_err-write_ordered_name : goal.returns-in_err-write_ordered_name
returns-in_err-write_ordered_name g c =
    failed _ _ _ _ c.from_residual-in_err-write_ordered_name.ensures.0
    (stops_before _ (stops_before _ (stops_then c.in_ok-write_ordered_front.ensures c.in_err-write_ordered_name.ensures)))

pub returns-in_err-write_payload : goal.returns-in_err-write_payload
returns-in_err-write_payload g c =
    failed _ _ _ _ c.from_residual-in_err-write_payload.ensures.0
    (stops_before _ (stops_then (puts_then c.in_ok-write_ordered_front.ensures c.in_ok-write_ordered_name.ensures) (rw c.as_slice.ensures at c.in_err-write_payload.ensures)))

pub returns-in_err-write_ordered_end : goal.returns-in_err-write_ordered_end
returns-in_err-write_ordered_end g c =
    failed _ _ _ _ c.from_residual-in_err-write_ordered_end.ensures.0
    (stops_then (puts_then (puts_then c.in_ok-write_ordered_front.ensures c.in_ok-write_ordered_name.ensures) (rw c.as_slice.ensures at c.in_ok-write_payload.ensures))
    c.in_err-write_ordered_end.ensures)

pub returns : goal.returns
returns g c =
    puts_then (puts_then (puts_then c.in_ok-write_ordered_front.ensures c.in_ok-write_ordered_name.ensures) (rw c.as_slice.ensures at c.in_ok-write_payload.ensures))
    c.in_ok-write_ordered_end.ensures
