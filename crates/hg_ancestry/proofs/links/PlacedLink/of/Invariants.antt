use Rattle.std.proofs.Common.{◌≡◌, length, take}
use Rattle.hg_ancestry.proofs.links.PlacedLink.of.Given as goal

abbrev pub invariant-loop-i : goal.invariant-loop-i
invariant-loop-i l = record {
  long : length l.places ≡ 5;
  same : take l.i l.places ≡ take l.i l.parents;
}
