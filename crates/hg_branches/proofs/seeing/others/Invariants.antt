use Rattle.std.proofs.Common.{◌≡◌, ◌≤◌, ◌-◌, ℕ, length, ◌&&◌, slice_index, eqb}
use Rattle.hg_model.specs.Counts.{numbers_of}
use Rattle.hg_model.specs.Places.{some_below}
use Rattle.hg_bits.specs.Masks.{mask_has}
use Rattle.hg_branches.specs.Lines.{other_sees}
use Rattle.hg_branches.proofs.seeing.others.Given as goal

abbrev pub invariant-loop-b : goal.invariant-loop-b
invariant-loop-b l = record {
  told : (m : ℕ) → mask_has l.mask m ≡ some_below l.b (λ b. other_sees l.sight.shape.links l.makers (numbers_of l.target.firsts) l.counts.row l.target.row b && eqb (slice_index l.makers b) m);
  inside : l.b ≤ length l.makers;
  past : length (numbers_of l.target.firsts) ≤ l.b;
}

abbrev pub decreases-loop-b : goal.decreases-loop-b
decreases-loop-b l = length l.makers - l.b
