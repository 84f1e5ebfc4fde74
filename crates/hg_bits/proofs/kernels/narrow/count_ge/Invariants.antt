use Rattle.std.proofs.Common.{◌≡◌}
use Rattle.hg_model.specs.Places.{count_below}
use Rattle.hg_bits.specs.Lanes.{is_at_least}
use Rattle.hg_bits.proofs.kernels.narrow.count_ge.Given as goal

abbrev pub invariant-loop-i : goal.invariant-loop-i
invariant-loop-i l = l.count ≡ count_below l.i (is_at_least l.row l.other)
