use Rattle.hg_votes.specs.Counting.{IsMadeFor}
use Rattle.hg_proof.proofs.least.last_decider.Given as goal

abbrev pub invariant-loop-x : goal.invariant-loop-x
invariant-loop-x l = IsMadeFor l.votes l.graph.graph
