use Rattle.std.proofs.Common.{◌≡◌, ℕ}
use Rattle.hg_bits.specs.Masks.{mask_has}
use Rattle.hg_branches.specs.Columns.{forks_up_to}
use Rattle.hg_branches.proofs.forks.forked_next.Given as goal

abbrev pub invariant-loop-i : goal.invariant-loop-i
invariant-loop-i l = (m : ℕ) → mask_has l.mask m ≡ forks_up_to l.makers l.counts.rows l.forked.items l.many l.first l.others l.by m l.i
