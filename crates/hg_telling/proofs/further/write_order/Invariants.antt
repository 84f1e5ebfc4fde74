use Rattle.std.proofs.Common.{◌+◌, drop}
use Rattle.hg_telling.specs.Parts.{ordered_lines}
use Rattle.hg_io.specs.Printing.{IsPutUpTo, desk}
use Rattle.hg_telling.proofs.further.write_order.Given as goal

abbrev pub invariant-loop-i : goal.invariant-loop-i
invariant-loop-i g l =
    let sink = g.K.Sink in
    IsPutUpTo (desk sink l.initial.sink l.initial.page) (desk sink l.sink l.page)
    (ordered_lines l.members (l.first + l.i) (drop l.i l.events)) (ordered_lines l.members l.first l.events)
