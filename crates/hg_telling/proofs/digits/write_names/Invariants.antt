use Rattle.std.proofs.Common.{drop}
use Rattle.hg_io.specs.Printing.{IsPutUpTo, desk}
use Rattle.hg_service.specs.Text.{digits_each, lines_text}
use Rattle.hg_telling.proofs.digits.write_names.Given as goal

abbrev pub invariant-loop-name : goal.invariant-loop-name
invariant-loop-name g l =
    let sink = g.K.Sink in
    IsPutUpTo (desk sink l.initial.sink l.initial.page) (desk sink l.sink l.page)
    (lines_text (digits_each (drop l.name-index l.names))) (lines_text (digits_each l.names))
