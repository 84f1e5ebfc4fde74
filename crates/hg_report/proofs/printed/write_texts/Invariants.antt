use Rattle.std.proofs.Common.{drop}
use Rattle.hg_io.specs.Printing.{IsPutUpTo, desk}
use Rattle.hg_outcome.specs.Report.{printed_texts}
use Rattle.hg_report.proofs.printed.write_texts.Given as goal

abbrev pub invariant-loop-printed : goal.invariant-loop-printed
invariant-loop-printed g l =
    let sink = g.K.Sink in
    IsPutUpTo (desk sink l.initial.sink l.initial.page) (desk sink l.sink l.page)
    (printed_texts l.names (drop l.printed-index l.texts)) (printed_texts l.names l.texts)
