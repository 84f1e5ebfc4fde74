use Rattle.std.proofs.Common.{◌≡◌, ◌<◌, ◌≤◌, ℕ, min, slice_index}
use Rattle.hg_order.proofs.least.lower_to_narrow.Given as goal

abbrev pub invariant-loop-i : goal.invariant-loop-i
invariant-loop-i l = record {
  lowered : (m : ℕ) → m < l.i → slice_index l.numbers m ≡ min (slice_index l.initial.numbers m) (slice_index l.others m);
  short : (m : ℕ) → m < l.i → slice_index l.others m ≤ 4294967295;
  left : (m : ℕ) → l.i ≤ m → slice_index l.numbers m ≡ slice_index l.initial.numbers m;
}
