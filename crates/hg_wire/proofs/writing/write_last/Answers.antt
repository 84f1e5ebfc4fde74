use Rattle.hg_io.proofs.PrintLaws.{failed, puts_then, stops_before, stops_then}
use Rattle.hg_wire.proofs.writing.write_last.Goals as goal

pub returns-in_err-put-in-Some : goal.returns-in_err-put-in-Some
returns-in_err-put-in-Some g c = failed _ _ _ _ c.from_residual.ensures.0 (rw c.in-Some.is (stops_before c.in-Some.name c.in_err-put-in-Some.ensures.puts))

pub returns-in_err-put-in-Some-2 : goal.returns-in_err-put-in-Some-2
returns-in_err-put-in-Some-2 g c =
    failed _ _ _ _ c.from_residual-in_err-put-in-Some-2.ensures.0 (rw c.in-Some.is (stops_then c.in_ok-put-in-Some.ensures.puts c.in_err-put-in-Some-2.ensures.puts))

pub returns-in_ok-put-in-Some-2 : goal.returns-in_ok-put-in-Some-2
returns-in_ok-put-in-Some-2 g c = rw c.in-Some.is (puts_then c.in_ok-put-in-Some.ensures.puts c.in_ok-put-in-Some-2.ensures.puts)
