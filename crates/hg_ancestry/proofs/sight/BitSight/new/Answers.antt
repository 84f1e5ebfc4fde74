use Rattle.std.proofs.Common.{arith}
use Rattle.hg_ancestry.proofs.GrowLaws.{sight_none}
use Rattle.hg_ancestry.proofs.sight.BitSight.new.Goals as goal

pub invariant_of-result : goal.invariant_of-result
invariant_of-result c = record {
  sight = rw (c.in_ok-new.ensures, c.new-2.ensures.items, c.new-3.ensures.items, c.new-4.ensures.items) (sight_none c.args.stakes.now c.requires);
  spare = tt;
  links_room = omega arith;
  ancestors_room = omega arith;
  forked_room = omega arith;
}
