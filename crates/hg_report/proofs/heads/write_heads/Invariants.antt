use Rattle.std.proofs.Common.{drop}
use Rattle.hg_io.specs.Printing.{IsPutUpTo, desk}
use Rattle.hg_report.specs.Heads.{pieces_heads}
use Rattle.hg_report.proofs.heads.write_heads.Given as goal

abbrev pub invariant-loop-piece : goal.invariant-loop-piece
invariant-loop-piece g l =
    let sink = g.K.Sink in
    IsPutUpTo (desk sink l.initial.sink l.initial.page) (desk sink l.sink l.page)
    (pieces_heads l.names (drop l.piece-index l.pieces)) (pieces_heads l.names l.pieces)
