use Rattle.std.proofs.Common.{◌≡◌, ℕ, ◌∷◌, take}
use Rattle.hg_bits.specs.Masks.{mask_has}
use Rattle.hg_ancestry.specs.Held.{above_row, is_above}
use Rattle.hg_ancestry.proofs.NewForkLaws.{forks_next}
use Rattle.hg_ancestry.proofs.ancestry.add_parents.Given as goal

abbrev pub invariant-loop-other : goal.invariant-loop-other
invariant-loop-other l = record {
  row : l.row ≡ above_row l.sight.shape.links (l.self_place ∷ take l.other-index l.others);
  forks : (m : ℕ) → mask_has l.forked m ≡ forks_next l.sight.shape.links l.self_place l.by (is_above l.sight.shape.links (l.self_place ∷ take l.other-index l.others)) m;
}
