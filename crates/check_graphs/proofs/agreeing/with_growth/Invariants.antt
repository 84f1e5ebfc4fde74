use Rattle.std.proofs.Common.{◌≡◌, ◌<◌, ℕ, [], get_or, slice_get, IfSome}
use Rattle.hg_model.specs.Orders.{IsPrefix}
use Rattle.check_graphs.proofs.agreeing.with_growth.Given as goal

abbrev pub invariant-loop-place : goal.invariant-loop-place
invariant-loop-place l = record {
  none : l.score.differ ≡ 0 → l.fn.score.differ ≡ 0;
  each : l.score.differ ≡ 0 → (m : ℕ) → m < l.place → IfSome (slice_get l.before m) (λ order. IsPrefix order (get_or l.orders m []));
}
