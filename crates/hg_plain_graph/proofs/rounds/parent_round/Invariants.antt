use Rattle.std.proofs.Common.{◌≡◌, slice_index, take}
use Rattle.hg_model.specs.Rounds.{parent_round}
use Rattle.hg_plain_graph.proofs.rounds.parent_round.Given as goal

abbrev pub invariant-loop-place : goal.invariant-loop-place
invariant-loop-place l = l.greatest ≡ parent_round (λ p. slice_index l.rounds p) (take l.place-index l.places)
