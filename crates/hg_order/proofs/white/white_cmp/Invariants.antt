use Rattle.std.proofs.Common.{◌≡◌}
use Rattle.hg_order.proofs.WhiteLaws.{whitened_from}
use Rattle.hg_order.proofs.white.white_cmp.Given as goal

-- the bytes so far are the same
abbrev pub invariant-loop-i : goal.invariant-loop-i
invariant-loop-i l = whitened_from l.white l.a l.b l.i ≡ whitened_from l.white l.a l.b 0
