use Rattle.std.proofs.Common.{◌<◌, ℕ, length}
use Rattle.check_graphs.specs.Alike.{IsPairAlike, IsRowAlike}
use Rattle.check_graphs.proofs.comparing.is_alike.Given as goal

abbrev pub invariant-loop-x : goal.invariant-loop-x
invariant-loop-x g l = record {
  rows : (k : ℕ) → k < l.x → IsRowAlike (g.P.Sight.shape l.a) (g.P.Rounds.standings l.a) (g.Q.Sight.shape l.b) (g.Q.Rounds.standings l.b) k;
  pairs : (k y : ℕ) → k < l.x → y < length (g.P.Sight.shape l.a).links → IsPairAlike (g.P.Sight.shape l.a) (g.Q.Sight.shape l.b) k y;
}
