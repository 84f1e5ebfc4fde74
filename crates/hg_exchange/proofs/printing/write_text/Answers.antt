use Rattle.hg_io.proofs.PrintLaws.{failed, puts_then, stops_before, stops_then}
use Rattle.hg_exchange.proofs.printing.write_text.Goals as goal

pub returns-in_err-write_counts : goal.returns-in_err-write_counts
returns-in_err-write_counts g c = failed _ _ _ _ c.from_residual.ensures.0 (stops_before _ c.in_err-write_counts.ensures)

pub returns-in_err-write_outcome : goal.returns-in_err-write_outcome
returns-in_err-write_outcome g c =
    failed _ _ _ _ c.from_residual-in_err-write_outcome.ensures.0 (stops_then c.in_ok-write_counts.ensures c.in_err-write_outcome.ensures)

pub returns : goal.returns
returns g c = puts_then c.in_ok-write_counts.ensures c.in_ok-write_outcome.ensures
