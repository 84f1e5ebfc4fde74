use Rattle.std.proofs.Common.{◌<◌, ℕ}
use Rattle.check_graphs.specs.Alike.{IsPairAlike}
use Rattle.check_graphs.proofs.comparing.sees_alike.Given as goal

abbrev pub invariant-loop-y : goal.invariant-loop-y
invariant-loop-y g l = (k : ℕ) → k < l.y → IsPairAlike (g.S.Sight.shape l.a) (g.T.Sight.shape l.b) l.x k
