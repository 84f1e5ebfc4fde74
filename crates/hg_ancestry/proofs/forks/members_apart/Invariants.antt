use Rattle.std.proofs.Common.{◌≡◌, ℕ, ◌≤◌, ◌-◌, ◌&&◌, eqb, length}
use Rattle.hg_model.specs.Places.{some_below}
use Rattle.hg_model.specs.Links.{creator}
use Rattle.hg_bits.specs.Masks.{mask_has}
use Rattle.hg_bits.specs.Rows.{is_over}
use Rattle.hg_ancestry.proofs.forks.members_apart.Given as goal

abbrev pub invariant-places : goal.invariant-places
invariant-places l = record {
  within : l.from ≤ length l.rows;
  matches : (m : ℕ) → mask_has l.mask m ≡ some_below l.from (λ a. is_over l.rows l.others a && eqb (creator l.sight.shape.links a) m);
}

abbrev pub decreases-places : goal.decreases-places
decreases-places l = length l.rows - l.from
