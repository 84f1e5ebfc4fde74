use Rattle.std.proofs.Common.{◌≡◌, ◌<◌, ℕ, [], get_or}
use Rattle.hg_runs.specs.Safety.{IsOnePrefix}
use Rattle.check_graphs.proofs.agreeing.with_pairs.Given as goal

abbrev pub invariant-loop-place : goal.invariant-loop-place
invariant-loop-place l = record {
  none : l.score.differ ≡ 0 → l.fn.score.differ ≡ 0;
  pairs : l.score.differ ≡ 0 → (i j : ℕ) → i < j → j < l.place → IsOnePrefix (get_or l.orders i []) (get_or l.orders j []);
}
