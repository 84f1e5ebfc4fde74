use Rattle.std.proofs.Common.{length}
use Rattle.hg_io.specs.Printing.{IsPutUpTo, desk}
use Rattle.hg_service.specs.Text.{cut, digits_each, lines_text}
use Rattle.hg_telling.proofs.digits.write_cut.Given as goal

abbrev pub invariant-parts : goal.invariant-parts
invariant-parts g l =
    let sink = g.K.Sink in
    IsPutUpTo (desk sink l.initial.sink l.initial.page) (desk sink l.sink l.page) (lines_text (digits_each (cut l.rest))) (lines_text (digits_each (cut l.bytes)))

abbrev pub decreases-parts : goal.decreases-parts
decreases-parts g l = length l.rest
