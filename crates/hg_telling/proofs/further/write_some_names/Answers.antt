use Rattle.hg_io.proofs.PrintLaws.{failed, puts_then, stops_before, stops_then}
use Rattle.hg_telling.proofs.further.write_some_names.Goals as goal

pub returns-in_err-put : goal.returns-in_err-put
returns-in_err-put g c = failed _ _ _ _ c.from_residual.ensures.0 (stops_before _ (rw (c.member_name.ensures, c.from.ensures) at c.in_err-put.ensures.puts))

pub returns-in_err-write_more_names : goal.returns-in_err-write_more_names
returns-in_err-write_more_names g c =
    failed _ _ _ _ c.from_residual-in_err-write_more_names.ensures.0 (stops_then (rw (c.member_name.ensures, c.from.ensures) at c.in_ok-put.ensures.puts) c.in_err-write_more_names.ensures)

pub returns : goal.returns
returns g c = puts_then (rw (c.member_name.ensures, c.from.ensures) at c.in_ok-put.ensures.puts) c.in_ok-write_more_names.ensures
