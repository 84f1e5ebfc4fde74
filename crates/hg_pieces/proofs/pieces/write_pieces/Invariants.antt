use Rattle.std.proofs.Common.{drop}
use Rattle.hg_io.specs.Printing.{IsPutUpTo, desk}
use Rattle.hg_pieces.specs.Pieces.{pieces_text}
use Rattle.hg_pieces.proofs.pieces.write_pieces.Given as goal

abbrev pub invariant-loop-piece : goal.invariant-loop-piece
invariant-loop-piece g l =
    let sink = g.K.Sink in
    IsPutUpTo (desk sink l.initial.sink l.initial.page) (desk sink l.sink l.page)
    (pieces_text (drop l.piece-index l.pieces)) (pieces_text l.pieces)
