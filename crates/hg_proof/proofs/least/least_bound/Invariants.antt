use Rattle.std.proofs.Common.{ℕ, ◌<◌}
use Rattle.hg_proof.specs.Least.{HasFrom}
use Rattle.hg_proof.proofs.least.least_bound.Given as goal

abbrev pub invariant-loop-p : goal.invariant-loop-p
invariant-loop-p l = (k : ℕ) → k < l.bound → HasFrom l.order k
