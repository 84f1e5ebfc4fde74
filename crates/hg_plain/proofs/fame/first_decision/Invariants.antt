use Rattle.std.proofs.Common.{◌≡◌, option_map}
use Rattle.hg_model.specs.Places.{least_below}
use Rattle.hg_model.specs.Rounds.{round_of}
use Rattle.hg_plain.specs.Elections.{decides_at, decision_at}
use Rattle.hg_plain.proofs.fame.first_decision.Given as goal

abbrev pub invariant-loop-y : goal.invariant-loop-y
invariant-loop-y l = l.first ≡ option_map (decision_at l.sight.members l.sight.links l.ballots) (least_below (round_of l.sight.members l.sight.links) l.y (decides_at l.ballots))
