use Rattle.std.proofs.Common.{◌≡◌, is_some}
use Rattle.hg_model.specs.Fame.{mark_at}
use Rattle.hg_model.specs.Places.{count_below}
use Rattle.hg_life.specs.NodeView.{node_marks}
use Rattle.check_graphs.proofs.marks.count_marked.Given as goal

abbrev pub invariant-loop-place : goal.invariant-loop-place
invariant-loop-place l = l.count ≡ count_below l.place (λ x. is_some (mark_at (node_marks l.node) x))
