use Rattle.std.proofs.Common.{◌≡◌, false}
use Rattle.hg_model.specs.Places.{some_below}
use Rattle.hg_plain_graph.specs.Twins.{is_twin}
use Rattle.hg_plain_graph.proofs.forks.has_twin_before.Given as goal

abbrev pub invariant-loop-y : goal.invariant-loop-y
invariant-loop-y l = some_below l.y (is_twin l.rows l.x) ≡ false
