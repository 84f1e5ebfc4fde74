use Rattle.std.specs.List.{concat}
use Rattle.hg_io.proofs.PrintLaws.{failed, puts_then, stops_before, stops_then}
use Rattle.hg_wire.proofs.writing.put_have.Goals as goal

pub returns-in_err-put : goal.returns-in_err-put
returns-in_err-put g c = failed _ _ _ _ c.from_residual.ensures.0 (stops_before (concat c.args.names.now) (rw c.head_of.ensures at c.in_err-put.ensures.puts))

pub returns-in_err-write_names : goal.returns-in_err-write_names
returns-in_err-write_names g c =
    failed _ _ _ _ c.from_residual-in_err-write_names.ensures.0 (stops_then (rw c.head_of.ensures at c.in_ok-put.ensures.puts) c.in_err-write_names.ensures)

pub returns : goal.returns
returns g c = puts_then (rw c.head_of.ensures at c.in_ok-put.ensures.puts) c.in_ok-write_names.ensures
