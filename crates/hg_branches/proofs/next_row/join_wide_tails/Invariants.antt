use Rattle.std.proofs.Common.{◌≡◌, ◌≤◌, ℕ, length, get_or, take}
use Rattle.std.specs.Prelude.{vec_capacity}
use Rattle.std.specs.List.{AllByRecursion}
use Rattle.hg_branches.specs.Branches.{greatest_count}
use Rattle.hg_branches.specs.Tails.{tail_count, tail_width}
use Rattle.hg_branches.proofs.next_row.join_wide_tails.Given as goal

abbrev pub invariant-loop-place : goal.invariant-loop-place
invariant-loop-place l = record {
  each : (k : ℕ) → get_or l.row.items k 0 ≡ greatest_count (tail_count l.tails.rows) (take l.place-index l.on) k;
  narrow : (n : ℕ) → AllByRecursion (λ p. tail_width l.tails.rows p ≤ n) l.on → length l.row.items ≤ n;
  capacity : vec_capacity l.initial.row ≤ vec_capacity l.row;
}
