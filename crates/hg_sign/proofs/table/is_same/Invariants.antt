use Rattle.std.proofs.Common.{take}
use Rattle.hg_sign.proofs.Differing.{AreDifferences}
use Rattle.hg_sign.proofs.table.is_same.Given as goal

abbrev pub invariant-loop-i : goal.invariant-loop-i
invariant-loop-i l = AreDifferences l.difference (take l.i l.a) (take l.i l.b)
