use Rattle.hg_io.proofs.PrintLaws.{failed, more_put, stopped_within}
use Rattle.hg_report.proofs.Steps.{heads_left}
use Rattle.hg_report.proofs.heads.write_heads.Goals as goal

pub loop-piece-preserved : goal.loop-piece-preserved
loop-piece-preserved g c =
    more_put _ _ _ _ _ _ _ (heads_left c.args.names.now c.args.pieces.now c.loop-piece.piece-index c.piece-item.result c.piece-item.is c.loop-piece-test.true) c.loop-piece.invariant c.in_ok-write_piece_head.ensures

pub returns-in_err-write_piece_head : goal.returns-in_err-write_piece_head
returns-in_err-write_piece_head g c =
    failed _ _ _ _ c.from_residual.ensures.0
    (stopped_within _ _ _ _ _ _ _ (heads_left c.args.names.now c.args.pieces.now c.loop-piece.piece-index c.piece-item.result c.piece-item.is c.loop-piece-test.true) c.loop-piece.invariant c.in_err-write_piece_head.ensures)
