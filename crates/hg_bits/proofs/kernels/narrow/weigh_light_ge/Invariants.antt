use Rattle.std.proofs.Common.{◌≡◌, slice_index}
use Rattle.hg_model.specs.Places.{weight_below}
use Rattle.hg_bits.specs.Lanes.{is_at_least}
use Rattle.hg_bits.proofs.kernels.narrow.weigh_light_ge.Given as goal

abbrev pub invariant-loop-i : goal.invariant-loop-i
invariant-loop-i l = l.sum ≡ weight_below (slice_index l.weights) l.i (is_at_least l.row l.other)
