use Rattle.hg_io.proofs.PrintLaws.{printed_by_page}
use Rattle.hg_report.proofs.summary.summary_of.Goals as goal

pub returns : goal.returns
returns g c =
    printed_by_page g.K.Sink _ _ _ _ _ _ _ c.new-page.ensures (rw (c.as_slice.ensures, c.as_slice-2.ensures) at c.in_ok-write_nodes.ensures) c.send.ensures.matches
