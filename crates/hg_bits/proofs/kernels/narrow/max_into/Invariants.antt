use Rattle.std.proofs.Common.{◌≡◌, ◌<◌, ◌≤◌, ℕ, max, slice_index}
use Rattle.hg_bits.proofs.kernels.narrow.max_into.Given as goal

abbrev pub invariant-loop-i : goal.invariant-loop-i
invariant-loop-i l = record {
  raised : (i : ℕ) → i < l.i → slice_index l.row i ≡ max (slice_index l.initial.row i) (slice_index l.other i);
  left : (i : ℕ) → l.i ≤ i → slice_index l.row i ≡ slice_index l.initial.row i;
}
