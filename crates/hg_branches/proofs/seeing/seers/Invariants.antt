use Rattle.std.proofs.Common.{◌≡◌, ◌≤◌, ◌-◌, ℕ, length, ◌&&◌, slice_index, eqb}
use Rattle.hg_model.specs.Places.{some_below}
use Rattle.hg_bits.specs.Masks.{mask_has}
use Rattle.hg_branches.specs.Lines.{sees_on}
use Rattle.hg_branches.proofs.seeing.seers.Given as goal

abbrev pub invariant-loop-b : goal.invariant-loop-b
invariant-loop-b l = record {
  told : (m : ℕ) → mask_has l.mask m ≡ some_below l.b (λ b. sees_on l.sight.shape.links l.counts.row l.y b && eqb (slice_index l.makers b) m);
  inside : l.b ≤ length l.makers;
}

abbrev pub decreases-loop-b : goal.decreases-loop-b
decreases-loop-b l = length l.makers - l.b
