use Rattle.std.proofs.Common.{◌≡◌, ◌<◌, ◌-◌, ℕ, ◌⊎◌, slice_index}
use Rattle.hg_order.proofs.sweep.are_past.Given as goal

abbrev pub invariant-loop-m : goal.invariant-loop-m
invariant-loop-m l = (j : ℕ) → j < l.m → (slice_index l.next j ≡ 0) ⊎ (slice_index l.least j - l.low < slice_index l.next j)
