use Rattle.std.proofs.Common.{◌≡◌, slice_index}
use Rattle.hg_model.specs.Places.{maximum_below}
use Rattle.hg_plain_graph.proofs.rounds.greatest_of.Given as goal

abbrev pub invariant-loop-x : goal.invariant-loop-x
invariant-loop-x l = l.greatest ≡ maximum_below (λ k. slice_index l.rounds k) l.x
