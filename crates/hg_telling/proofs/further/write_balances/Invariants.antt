use Rattle.std.proofs.Common.{drop}
use Rattle.hg_telling.specs.Parts.{balance_lines}
use Rattle.hg_io.specs.Printing.{IsPutUpTo, desk}
use Rattle.hg_telling.proofs.further.write_balances.Given as goal

abbrev pub invariant-loop-i : goal.invariant-loop-i
invariant-loop-i g l =
    let sink = g.K.Sink in
    IsPutUpTo (desk sink l.initial.sink l.initial.page) (desk sink l.sink l.page)
    (balance_lines l.members l.i (drop l.i l.balances)) (balance_lines l.members 0 l.balances)
