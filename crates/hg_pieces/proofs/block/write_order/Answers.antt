use Rattle.std.proofs.Common.{◌+◌}
use Rattle.hg_io.proofs.PrintLaws.{failed, more_put, stopped_within}
use Rattle.hg_pieces.proofs.Steps.{lines_left}
use Rattle.hg_pieces.proofs.block.write_order.Goals as goal

pub loop-i-preserved : goal.loop-i-preserved
loop-i-preserved g c =
    more_put _ _ _ _ _ _ _ (lines_left c.args.named c.args.names.now c.args.lines.now (c.loop-i.i + 1) c.loop-i.i _ c.loop-i-test.true) c.loop-i.invariant c.in_ok-write_order_line.ensures

pub returns-in_err-write_order_line : goal.returns-in_err-write_order_line
returns-in_err-write_order_line g c =
    failed _ _ _ _ c.from_residual.ensures.0
    (stopped_within _ _ _ _ _ _ _ (lines_left c.args.named c.args.names.now c.args.lines.now (c.loop-i.i + 1) c.loop-i.i _ c.loop-i-test.true) c.loop-i.invariant c.in_err-write_order_line.ensures)
