use Rattle.std.proofs.Common.{◌≡◌}
use Rattle.hg_life.specs.Members.{has_node}
use Rattle.hg_model.specs.Places.{list_below}
use Rattle.hg_play.specs.Outcomes.{kept_at}
use Rattle.hg_play.proofs.outcomes.outcome_of.Given as goal

abbrev pub invariant-loop-member : goal.invariant-loop-member
invariant-loop-member l = l.printed.items ≡ list_below (kept_at l.members l.world) l.member (has_node l.members)
