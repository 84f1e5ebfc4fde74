use Rattle.std.proofs.Common.{◌≡◌, ◌≤◌, ◌-◌, length, vec_capacity}
use Rattle.hg_kept.specs.Published.{KeepsUpTo}
use Rattle.hg_kept.specs.Receiving.{published_as}
use Rattle.hg_kept.proofs.closing.close_rounds.Given as goal

abbrev pub invariant-rounds : goal.invariant-rounds
invariant-rounds g l =
    KeepsUpTo (g.P.Prefix.graph l.p) (published_as l.marks l.last l.order.items l.pending)
    × (l.fn.closed ≤ l.last)
    × (l.pending.room ≡ l.fn.pending.room)
    × (vec_capacity l.order ≡ vec_capacity l.fn.order)

abbrev pub decreases-rounds : goal.decreases-rounds
decreases-rounds g l = length (g.P.Prefix.graph l.p).rows - l.last
