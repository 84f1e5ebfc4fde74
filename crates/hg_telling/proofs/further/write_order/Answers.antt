use Rattle.std.proofs.Common.{◌+◌, arith}
use Rattle.hg_io.proofs.PrintLaws.{failed, more_put, stopped_within}
use Rattle.hg_telling.proofs.LineLaws.{ordered_left}
use Rattle.hg_telling.proofs.further.write_order.Goals as goal

pub loop-i-preserved : goal.loop-i-preserved
loop-i-preserved g c =
    more_put _ _ _ _ _ _ _ (ordered_left c.args.members.now c.args.events.now (c.args.first + c.loop-i.i) (c.args.first + (c.loop-i.i + 1)) c.loop-i.i c.index-events-i.result c.index-events-i.is c.loop-i-test.true (omega arith)) c.loop-i.invariant (rw c.from.ensures at c.in_ok-write_ordered.ensures)

pub returns-in_err-write_ordered : goal.returns-in_err-write_ordered
returns-in_err-write_ordered g c =
    failed _ _ _ _ c.from_residual.ensures.0 (stopped_within _ _ _ _ _ _ _ (ordered_left c.args.members.now c.args.events.now (c.args.first + c.loop-i.i) (c.args.first + (c.loop-i.i + 1)) c.loop-i.i c.index-events-i.result c.index-events-i.is c.loop-i-test.true (omega arith)) c.loop-i.invariant (rw c.from.ensures at c.in_err-write_ordered.ensures))
