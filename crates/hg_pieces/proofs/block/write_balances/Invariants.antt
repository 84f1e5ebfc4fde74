use Rattle.std.proofs.Common.{drop}
use Rattle.hg_io.specs.Printing.{IsPutUpTo, desk}
use Rattle.hg_outcome.specs.Report.{balances_text}
use Rattle.hg_pieces.proofs.block.write_balances.Given as goal

abbrev pub invariant-loop-i : goal.invariant-loop-i
invariant-loop-i g l =
    let sink = g.K.Sink in
    IsPutUpTo (desk sink l.initial.sink l.initial.page) (desk sink l.sink l.page)
    (balances_text l.names l.i (drop l.i l.balances)) (balances_text l.names 0 l.balances)
