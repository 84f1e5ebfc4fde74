use Rattle.hg_io.proofs.PrintLaws.{failed, puts_then, stops_before, stops_then}
use Rattle.hg_pieces.proofs.block.write_block.Goals as goal

pub returns-in_err-write_head : goal.returns-in_err-write_head
returns-in_err-write_head g c = failed _ _ _ _ c.from_residual.ensures.0 (stops_before _ (stops_before _ (rw c.head.ensures at c.in_err-write_head.ensures)))

pub returns-in_err-write_order : goal.returns-in_err-write_order
returns-in_err-write_order g c =
    failed _ _ _ _ c.from_residual-in_err-write_order.ensures.0
    (stops_before _ (stops_then (rw c.head.ensures at c.in_ok-write_head.ensures) (rw c.as_slice.ensures at c.in_err-write_order.ensures)))

pub returns-in_err-write_balances : goal.returns-in_err-write_balances
returns-in_err-write_balances g c =
    failed _ _ _ _ c.from_residual-in_err-write_balances.ensures.0
    (stops_then (puts_then (rw c.head.ensures at c.in_ok-write_head.ensures) (rw c.as_slice.ensures at c.in_ok-write_order.ensures)) (rw c.as_slice-2.ensures at c.in_err-write_balances.ensures))

pub returns : goal.returns
returns g c =
    puts_then (puts_then (rw c.head.ensures at c.in_ok-write_head.ensures) (rw c.as_slice.ensures at c.in_ok-write_order.ensures)) (rw c.as_slice-2.ensures at c.in_ok-write_balances.ensures)
