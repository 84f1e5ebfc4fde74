use Rattle.std.proofs.Common.{◌≡◌, drop}
use Rattle.hg_proof.specs.Judging.{difference_from}
use Rattle.hg_proof.proofs.comparing.difference.Given as goal

abbrev pub invariant-loop-i : goal.invariant-loop-i
invariant-loop-i l = difference_from 0 l.order l.other ≡ difference_from l.i (drop l.i l.order) (drop l.i l.other)
