use Rattle.hg_io.proofs.PrintLaws.{failed, puts_then, stops_before, stops_then}
use Rattle.hg_telling.proofs.answer.write_parts.Goals as goal

pub returns-in_err-write_count : goal.returns-in_err-write_count
returns-in_err-write_count g c =
    failed _ _ _ _ c.from_residual.ensures.0 (stops_before _ (stops_before _ (stops_before _ (stops_before _ (rw c.count_of.ensures at c.in_err-write_count.ensures)))))

pub returns-in_err-write_head : goal.returns-in_err-write_head
returns-in_err-write_head g c =
    failed _ _ _ _ c.from_residual-in_err-write_head.ensures.0
    (stops_before _ (stops_before _ (stops_before _ (stops_then (rw c.count_of.ensures at c.in_ok-write_count.ensures) c.in_err-write_head.ensures))))

pub returns-in_err-write_tail : goal.returns-in_err-write_tail
returns-in_err-write_tail g c =
    failed _ _ _ _ c.from_residual-in_err-write_tail.ensures.0
    (stops_before _ (stops_before _ (stops_then (puts_then (rw c.count_of.ensures at c.in_ok-write_count.ensures) c.in_ok-write_head.ensures) c.in_err-write_tail.ensures)))

pub returns-in_err-put : goal.returns-in_err-put
returns-in_err-put g c =
    failed _ _ _ _ c.from_residual-in_err-put.ensures.0
    (stops_before _ (stops_then (puts_then (puts_then (rw c.count_of.ensures at c.in_ok-write_count.ensures) c.in_ok-write_head.ensures) c.in_ok-write_tail.ensures) c.in_err-put.ensures.puts))

pub returns-in_err-write_further : goal.returns-in_err-write_further
returns-in_err-write_further g c =
    failed _ _ _ _ c.from_residual-in_err-write_further.ensures.0
    (stops_then (puts_then (puts_then (puts_then (rw c.count_of.ensures at c.in_ok-write_count.ensures) c.in_ok-write_head.ensures) c.in_ok-write_tail.ensures) c.in_ok-put.ensures.puts)
    c.in_err-write_further.ensures)

pub returns : goal.returns
returns g c =
    puts_then (puts_then (puts_then (puts_then (rw c.count_of.ensures at c.in_ok-write_count.ensures) c.in_ok-write_head.ensures) c.in_ok-write_tail.ensures) c.in_ok-put.ensures.puts)
    c.in_ok-write_further.ensures
