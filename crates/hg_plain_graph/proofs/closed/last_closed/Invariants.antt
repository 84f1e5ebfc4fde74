use Rattle.std.proofs.Common.{◌≡◌, false, get_or}
use Rattle.hg_model.specs.Places.{greatest_below}
use Rattle.hg_plain_graph.proofs.closed.last_closed.Given as goal

abbrev pub invariant-loop-r : goal.invariant-loop-r
invariant-loop-r l = l.last ≡ greatest_below l.r (λ r. get_or l.closed r false)
