use Rattle.std.proofs.Common.{arith}
use Rattle.hg_order.proofs.FromLaws.{near_from}
use Rattle.hg_order.proofs.lane.gain_row.Goals as goal

pub gain_wide-requires-clause-near : goal.gain_wide-requires-clause-near
gain_wide-requires-clause-near g c = λ m _. near_from _ _ c.is_shaped.ensures.shaped c.args.x c.args.low _ (rw c.in-Wide.is at c.in-Some.ensures) (omega (arith, c.saturating_sub.ensures, c.if-saturating_sub.false)) m

pub returns-in-Narrow : goal.returns-in-Narrow
returns-in-Narrow g c =
    let gains = c.gain_narrow.ensures in
    record { counts = c.in-Narrow.counts.now; are = rw c.in-Narrow.is at c.in-Some.ensures; gained = gains.gained; line = gains.line; rest = gains.rest; most = gains.most }

pub returns-else-saturating_sub : goal.returns-else-saturating_sub
returns-else-saturating_sub g c =
    let gains = c.gain_wide.ensures in
    record { counts = c.in-Wide.counts.now; are = rw c.in-Wide.is at c.in-Some.ensures; gained = gains.gained; line = gains.line; rest = gains.rest; most = gains.most }
