use Rattle.hg_io.proofs.PrintLaws.{failed, puts_then, stops_before, stops_then}
use Rattle.hg_telling.proofs.digits.write_line.Goals as goal

pub returns-in_err-write_digits : goal.returns-in_err-write_digits
returns-in_err-write_digits g c = failed _ _ _ _ c.from_residual.ensures.0 (stops_before _ c.in_err-write_digits.ensures)

pub returns-in_err-put : goal.returns-in_err-put
returns-in_err-put g c = failed _ _ _ _ c.from_residual-in_err-put.ensures.0 (stops_then c.in_ok-write_digits.ensures c.in_err-put.ensures.puts)

pub returns : goal.returns
returns g c = puts_then c.in_ok-write_digits.ensures c.in_ok-put.ensures.puts
