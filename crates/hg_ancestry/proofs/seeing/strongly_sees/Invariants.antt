use Rattle.std.proofs.Common.{◌≡◌, ℕ, false}
use Rattle.hg_model.specs.Places.{some_below}
use Rattle.hg_model.specs.Stakes.{stake_where, total}
use Rattle.hg_model.specs.Seeing.{is_supermajority}
use Rattle.hg_bits.specs.Masks.{mask_has}
use Rattle.hg_ancestry.proofs.SeerLaws.{is_seer_by}
use Rattle.hg_ancestry.proofs.seeing.strongly_sees.Given as goal

abbrev pub invariant-loop-z : goal.invariant-loop-z
invariant-loop-z l = record {
  matches : (m : ℕ) → mask_has l.mask m ≡ some_below l.z (is_seer_by l.sight.shape.links l.x l.y m);
  few : is_supermajority (total l.stakes) (stake_where l.stakes (mask_has l.mask)) ≡ false;
}
