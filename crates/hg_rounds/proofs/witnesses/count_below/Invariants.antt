use Rattle.std.proofs.Common.{◌<◌, ◌≤◌, ℕ, length}
use Rattle.std.specs.Prelude.{get_or}
use Rattle.hg_rounds.proofs.witnesses.count_below.Given as goal

abbrev pub invariant-loop-count : goal.invariant-loop-count
invariant-loop-count l = (l.count ≤ length l.places) × ((i : ℕ) → l.count ≤ i → i < length l.places → l.len ≤ get_or l.places i 0)

abbrev pub decreases-loop-count : goal.decreases-loop-count
decreases-loop-count l = l.count
