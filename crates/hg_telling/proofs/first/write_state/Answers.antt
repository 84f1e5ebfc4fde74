use Rattle.hg_io.proofs.PrintLaws.{failed, puts_then, stops_before, stops_then}
use Rattle.hg_telling.proofs.first.write_state.Goals as goal

pub returns-in_err-write_counts : goal.returns-in_err-write_counts
returns-in_err-write_counts g c = failed _ _ _ _ c.from_residual.ensures.0 (stops_before _ c.in_err-write_counts.ensures)

pub returns-in_err-write_own : goal.returns-in_err-write_own
returns-in_err-write_own g c = failed _ _ _ _ c.from_residual-in_err-write_own.ensures.0 (stops_then c.in_ok-write_counts.ensures c.in_err-write_own.ensures)

pub returns : goal.returns
returns g c = puts_then c.in_ok-write_counts.ensures c.in_ok-write_own.ensures
