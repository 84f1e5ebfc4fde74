use Rattle.std.proofs.Common.{◌≡◌, ◌<◌, ℕ, true, length, slice_index}
use Rattle.hg_branches.specs.Firsts.{none_by}
use Rattle.hg_branches.proofs.firsts.clear_wide.Given as goal

abbrev pub invariant-loop-b : goal.invariant-loop-b
invariant-loop-b l = record {
  len : length l.firsts ≡ length l.initial.firsts;
  each : (b : ℕ) → b < l.b → slice_index l.firsts b ≡ none_by true;
}
