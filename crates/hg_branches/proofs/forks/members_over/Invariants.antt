use Rattle.std.proofs.Common.{◌≡◌, ◌∷◌, ℕ, take, slice_index}
use Rattle.std.specs.List.{list_any}
use Rattle.hg_bits.specs.Masks.{mask_has}
use Rattle.hg_branches.specs.Columns.{count_in, counts_more}
use Rattle.hg_branches.proofs.forks.members_over.Given as goal

abbrev pub invariant-loop-row : goal.invariant-loop-row
invariant-loop-row l = (m : ℕ) → mask_has l.mask m ≡ list_any (λ p. counts_more l.makers (count_in l.counts.rows p) (slice_index l.there.row) m) (l.first ∷ take l.row-index l.others)
