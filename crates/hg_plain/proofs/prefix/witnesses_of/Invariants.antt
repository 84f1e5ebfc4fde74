use Rattle.std.proofs.Common.{◌≡◌}
use Rattle.hg_model.specs.Places.{list_below}
use Rattle.hg_model.specs.Fame.{is_witness_of_round}
use Rattle.hg_plain.proofs.prefix.witnesses_of.Given as goal

abbrev pub invariant-loop-y : goal.invariant-loop-y
invariant-loop-y l = l.witnesses.items ≡ list_below (λ w. w) l.y (is_witness_of_round l.sight.members l.sight.links l.r)
