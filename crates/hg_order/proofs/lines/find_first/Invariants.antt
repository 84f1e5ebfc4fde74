use Rattle.std.proofs.Common.{◌-◌}
use Rattle.hg_order.proofs.ListingLaws.{IsBetween}
use Rattle.hg_order.proofs.lines.find_first.Given as goal

abbrev pub invariant-loop-has : goal.invariant-loop-has
invariant-loop-has g l = IsBetween (g.S.Sight.shape l.sight).links l.x l.lines l.start l.«end» l.has l.lacks

abbrev pub decreases-loop-has : goal.decreases-loop-has
decreases-loop-has g l = l.lacks - l.has
