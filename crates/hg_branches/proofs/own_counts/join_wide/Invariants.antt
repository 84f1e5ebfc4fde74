use Rattle.std.proofs.Common.{◌≡◌, ◌<◌, ◌≤◌, ℕ, length, get_or, take}
use Rattle.std.specs.Prelude.{vec_capacity}
use Rattle.hg_branches.specs.Branches.{greatest_count}
use Rattle.hg_branches.specs.OwnCounts.{number_in}
use Rattle.hg_branches.proofs.own_counts.join_wide.Given as goal

abbrev pub invariant-loop-place : goal.invariant-loop-place
invariant-loop-place l = record {
  len : length l.row.items ≤ l.narrow.width;
  each : (b : ℕ) → b < l.narrow.width → get_or l.row.items b 0 ≡ greatest_count (number_in l.narrow l.wide) (take l.place-index l.on) b;
  capacity : vec_capacity l.initial.row ≤ vec_capacity l.row;
}
