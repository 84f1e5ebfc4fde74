use Rattle.std.proofs.Common.{◌≡◌, ◌≤◌, ℕ, length, get_or}
use Rattle.hg_branches.proofs.next_row.len_of.Given as goal

abbrev pub invariant-loop-len : goal.invariant-loop-len
invariant-loop-len l = record { within : l.len ≤ length l.row; rest : (k : ℕ) → l.len ≤ k → get_or l.row k 0 ≡ 0 }

abbrev pub decreases-loop-len : goal.decreases-loop-len
decreases-loop-len l = l.len
