use Rattle.std.proofs.Common.{◌≡◌, ◌==◌, ◌&&◌, false}
use Rattle.hg_model.specs.Places.{some_below}
use Rattle.hg_model.specs.Graph.{creator_at}
use Rattle.hg_plain_graph.specs.Twins.{has_twin_before}
use Rattle.hg_plain_graph.proofs.forks.has_twins.Given as goal

abbrev pub invariant-loop-x : goal.invariant-loop-x
invariant-loop-x l = some_below l.x (λ x. creator_at l.rows x == l.member && has_twin_before l.rows x) ≡ false
