use Rattle.std.proofs.Common.{◌≡◌, ◌<◌, ℕ, true, length}
use Rattle.hg_model.specs.Ancestry.{is_self_ancestor}
use Rattle.hg_model.specs.Seeing.{sees}
use Rattle.hg_branches.proofs.seeing.line_sees.Given as goal

abbrev pub invariant-line : goal.invariant-line
invariant-line l = record {
  there : l.at < length l.sight.shape.links;
  on : is_self_ancestor l.sight.shape.links l.z l.at ≡ true;
  below : (w : ℕ) → is_self_ancestor l.sight.shape.links l.z w ≡ true → sees l.sight.shape.links w l.y ≡ true → is_self_ancestor l.sight.shape.links l.at w ≡ true;
}

abbrev pub decreases-line : goal.decreases-line
decreases-line l = l.at
