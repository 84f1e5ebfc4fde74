use Rattle.std.proofs.Common.{drop, ◌+◌}
use Rattle.hg_io.specs.Printing.{IsPutUpTo, desk}
use Rattle.hg_outcome.specs.Report.{order_text}
use Rattle.hg_pieces.proofs.block.write_order.Given as goal

abbrev pub invariant-loop-i : goal.invariant-loop-i
invariant-loop-i g l =
    let sink = g.K.Sink in
    IsPutUpTo (desk sink l.initial.sink l.initial.page) (desk sink l.sink l.page)
    (order_text l.named l.names (l.i + 1) (drop l.i l.lines)) (order_text l.named l.names 1 l.lines)
