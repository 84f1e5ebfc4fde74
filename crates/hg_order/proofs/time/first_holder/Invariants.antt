use Rattle.std.proofs.Common.{◌≡◌, ◌≤◌, true}
use Rattle.hg_model.specs.Ancestry.{is_ancestor, is_self_ancestor}
use Rattle.hg_order.proofs.time.first_holder.Given as goal

abbrev pub invariant-loop-before : goal.invariant-loop-before
invariant-loop-before g l = let L = (g.S.Sight.shape l.sight).links in record {
  on_line : is_self_ancestor L l.w l.z ≡ true;
  holds : is_ancestor L l.z l.x ≡ true;
  low : l.z ≤ l.w;
}

abbrev pub decreases-loop-before : goal.decreases-loop-before
decreases-loop-before g l = l.z
