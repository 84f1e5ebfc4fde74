use Rattle.std.proofs.Common.{◌≡◌, ℕ, ◌||◌, ◌&&◌, eqb}
use Rattle.hg_model.specs.Counts.{numbers_of}
use Rattle.hg_model.specs.Places.{some_below}
use Rattle.hg_bits.specs.Masks.{mask_has}
use Rattle.hg_branches.specs.Lines.{first_sees}
use Rattle.hg_branches.proofs.seeing.may_see.Given as goal

abbrev pub invariant-loop-m : goal.invariant-loop-m
invariant-loop-m l = (j : ℕ) → mask_has l.mask j ≡ (mask_has l.several j || some_below l.m (λ b. first_sees l.sight.shape.links (numbers_of l.firsts) l.counts.row l.y b && eqb b j))
