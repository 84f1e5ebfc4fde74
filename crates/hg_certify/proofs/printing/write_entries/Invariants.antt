use Rattle.std.proofs.Common.{drop, ◌+◌}
use Rattle.hg_graph.specs.RowsWithRoom.{rows_of}
use Rattle.hg_io.specs.Printing.{IsPutUpTo, desk}
use Rattle.hg_certify.specs.Text.{entries_text}
use Rattle.hg_certify.proofs.printing.write_entries.Given as goal

abbrev pub invariant-loop-i : goal.invariant-loop-i
invariant-loop-i g l =
    let sink = g.K.Sink in
    IsPutUpTo (desk sink l.initial.sink l.initial.page) (desk sink l.sink l.page)
    (entries_text (rows_of l.events) (l.i + 1) (drop l.i l.order)) (entries_text (rows_of l.events) 1 l.order)
