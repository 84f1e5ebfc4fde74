use Rattle.std.proofs.Common.{◌≡◌, ◌<◌, ℕ, length, slice_index}
use Rattle.hg_branches.proofs.sight.own_branches.Given as goal

abbrev pub invariant-loop-m : goal.invariant-loop-m
invariant-loop-m l = record {
  len : length l.makers.items ≡ l.m;
  own : (m : ℕ) → m < l.m → slice_index l.makers.items m ≡ m;
}
