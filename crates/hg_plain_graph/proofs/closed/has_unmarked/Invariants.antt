use Rattle.std.proofs.Common.{◌≡◌, false}
use Rattle.hg_model.specs.Places.{some_below}
use Rattle.hg_model.specs.Fame.{is_unmarked}
use Rattle.hg_plain_graph.proofs.closed.has_unmarked.Given as goal

abbrev pub invariant-loop-y : goal.invariant-loop-y
invariant-loop-y l = some_below l.y (is_unmarked l.sight.members l.sight.links l.marks l.r) ≡ false
