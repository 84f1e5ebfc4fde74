use Rattle.std.proofs.Common.{drop}
use Rattle.hg_service.specs.Text.{lines_text, refused_texts}
use Rattle.hg_io.specs.Printing.{IsPutUpTo, desk}
use Rattle.hg_telling.proofs.further.write_all_refused.Given as goal

abbrev pub invariant-loop-event : goal.invariant-loop-event
invariant-loop-event g l =
    let sink = g.K.Sink in
    IsPutUpTo (desk sink l.initial.sink l.initial.page) (desk sink l.sink l.page)
    (lines_text (refused_texts (drop l.event-index l.events))) (lines_text (refused_texts l.events))
