use Rattle.std.proofs.Common.{◌≡◌}
use Rattle.hg_model.specs.Places.{list_below}
use Rattle.hg_life.specs.Members.{has_node}
use Rattle.hg_storm.proofs.plan.circle_of.Given as goal

abbrev pub invariant-loop-member : goal.invariant-loop-member
invariant-loop-member l = l.circle.items ≡ list_below (λ m. m) l.member (has_node l.members)
