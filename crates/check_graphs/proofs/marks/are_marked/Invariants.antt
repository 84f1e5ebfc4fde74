use Rattle.std.proofs.Common.{◌≡◌, ◌<◌, ℕ, Some, IfSome, slice_get}
use Rattle.hg_model.specs.Fame.{mark_at}
use Rattle.hg_life.specs.NodeView.{node_marks}
use Rattle.check_graphs.proofs.marks.are_marked.Given as goal

abbrev pub invariant-loop-x : goal.invariant-loop-x
invariant-loop-x l = (k : ℕ) → k < l.x → IfSome (slice_get l.marks k) (λ found. mark_at (node_marks l.node) found.0 ≡ Some found.1)
