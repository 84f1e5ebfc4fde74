use Rattle.std.proofs.Common.{drop}
use Rattle.hg_service.specs.Text.{entry_texts, lines_text}
use Rattle.hg_io.specs.Printing.{IsPutUpTo, desk}
use Rattle.hg_telling.proofs.further.write_entries.Given as goal

abbrev pub invariant-loop-entry : goal.invariant-loop-entry
invariant-loop-entry g l =
    let sink = g.K.Sink in
    IsPutUpTo (desk sink l.initial.sink l.initial.page) (desk sink l.sink l.page)
    (lines_text (entry_texts (drop l.entry-index l.entries))) (lines_text (entry_texts l.entries))
