use Rattle.std.proofs.Common.{◌≡◌, length}
use Rattle.check_sights.proofs.rounds.ring.Given as goal

abbrev pub invariant-loop-x : goal.invariant-loop-x
invariant-loop-x g l = length l.table.standings ≡ l.x
