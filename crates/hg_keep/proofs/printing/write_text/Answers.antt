use Rattle.hg_io.proofs.PrintLaws.{failed, puts_then, stops_before, stops_then}
use Rattle.hg_keep.proofs.printing.write_text.Goals as goal

pub returns-in_err-write_opened : goal.returns-in_err-write_opened
returns-in_err-write_opened g c = failed _ _ _ _ c.from_residual.ensures.0 (stops_before _ c.in_err-write_opened.ensures)

pub returns-in_err-write_counts : goal.returns-in_err-write_counts
returns-in_err-write_counts g c =
    failed _ _ _ _ c.from_residual-in_err-write_counts.ensures.0 (stops_then c.in_ok-write_opened.ensures (stops_before _ c.in_err-write_counts.ensures))

pub returns-in_err-write_made : goal.returns-in_err-write_made
returns-in_err-write_made g c =
    failed _ _ _ _ c.from_residual-in_err-write_made.ensures.0
    (stops_then c.in_ok-write_opened.ensures (stops_then c.in_ok-write_counts.ensures (stops_before _ c.in_err-write_made.ensures)))

pub returns-in_err-write_outcome : goal.returns-in_err-write_outcome
returns-in_err-write_outcome g c =
    failed _ _ _ _ c.from_residual-in_err-write_outcome.ensures.0
    (stops_then c.in_ok-write_opened.ensures (stops_then c.in_ok-write_counts.ensures (stops_then c.in_ok-write_made.ensures c.in_err-write_outcome.ensures)))

pub returns : goal.returns
returns g c =
    puts_then c.in_ok-write_opened.ensures (puts_then c.in_ok-write_counts.ensures (puts_then c.in_ok-write_made.ensures c.in_ok-write_outcome.ensures))
