use Rattle.std.proofs.Common.{◌≡◌, ◌<◌, ℕ, [], get_or}
use Rattle.hg_runs.specs.Safety.{IsOnePrefix}
use Rattle.check_graphs.proofs.agreeing.with_earlier.Given as goal

abbrev pub invariant-loop-k : goal.invariant-loop-k
invariant-loop-k l = record {
  none : l.score.differ ≡ 0 → l.fn.score.differ ≡ 0;
  each : l.score.differ ≡ 0 → (k : ℕ) → k < l.k → IsOnePrefix (get_or l.orders k []) (get_or l.orders l.place []);
}
