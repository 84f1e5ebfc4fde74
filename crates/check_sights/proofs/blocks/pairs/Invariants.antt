use Rattle.std.proofs.Common.{◌≡◌, ◌*◌, length}
use Rattle.check_sights.proofs.blocks.pairs.Given as goal

abbrev pub invariant-loop-x : goal.invariant-loop-x
invariant-loop-x l = (l.rows.width ≡ 2) × (length l.rows.numbers ≡ l.x * 2)
