use Rattle.std.proofs.Common.{◌≡◌, ◌<◌, ℕ, false, length, slice_index}
use Rattle.hg_branches.specs.Firsts.{none_by, wide_first}
use Rattle.hg_branches.proofs.firsts.all_wide.Given as goal

abbrev pub invariant-loop-b : goal.invariant-loop-b
invariant-loop-b l = record {
  len : length l.wide.items ≡ l.b;
  each : (b : ℕ) → b < l.b → slice_index l.wide.items b ≡ wide_first (none_by false) (slice_index l.firsts b);
}
