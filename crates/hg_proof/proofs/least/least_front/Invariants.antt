use Rattle.std.proofs.Common.{◌-◌}
use Rattle.hg_proof.specs.Least.{IsBetween}
use Rattle.hg_proof.proofs.least.least_front.Given as goal

abbrev pub invariant-halves : goal.invariant-halves
invariant-halves l = IsBetween l.graph.graph l.bounds.0 l.bounds.1

abbrev pub decreases-halves : goal.decreases-halves
decreases-halves l = l.bounds.1 - l.bounds.0
