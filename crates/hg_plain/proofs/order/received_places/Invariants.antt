use Rattle.std.proofs.Common.{◌≡◌, None, get_or}
use Rattle.hg_model.specs.Places.{list_below}
use Rattle.hg_plain.specs.Rounds.{is_round}
use Rattle.hg_plain.proofs.order.received_places.Given as goal

abbrev pub invariant-loop-x : goal.invariant-loop-x
invariant-loop-x l = l.places.items ≡ list_below (λ x. x) l.x (λ x. is_round l.r (get_or l.received x None))
