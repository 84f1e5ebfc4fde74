use Rattle.hg_io.proofs.PrintLaws.{failed, more_put, stopped_within}
use Rattle.hg_telling.proofs.LineLaws.{balances_left}
use Rattle.hg_telling.proofs.further.write_balances.Goals as goal

pub loop-i-preserved : goal.loop-i-preserved
loop-i-preserved g c =
    more_put _ _ _ _ _ _ _ (balances_left c.args.members.now c.args.balances.now c.loop-i.i c.loop-i.i _ c.loop-i-test.true) c.loop-i.invariant c.in_ok-write_balance.ensures

pub returns-in_err-write_balance : goal.returns-in_err-write_balance
returns-in_err-write_balance g c =
    failed _ _ _ _ c.from_residual.ensures.0 (stopped_within _ _ _ _ _ _ _ (balances_left c.args.members.now c.args.balances.now c.loop-i.i c.loop-i.i _ c.loop-i-test.true) c.loop-i.invariant c.in_err-write_balance.ensures)
