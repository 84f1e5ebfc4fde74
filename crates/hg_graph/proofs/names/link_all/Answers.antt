use Rattle.std.proofs.Common.{◌≡◌, ◌∙◌, ◌+◌, ◌-◌, refl, arith}
use Rattle.hg_graph.proofs.HashedLaws.{hash_same, linked_entered, linked_none}
use Rattle.hg_graph.proofs.names.link_all.Goals as goal

pub loop-x-init : goal.loop-x-init
loop-x-init c = record {
  same = c.unlink.ensures.same;
  long = c.unlink.ensures.long;
  len = refl;
  linked = linked_none c.args.heads.now c.unlink.new.hashed c.requires.empty c.unlink.ensures.each;
}

pub enter-requires-clause-later : goal.enter-requires-clause-later
enter-requires-clause-later c = (let at : c.loop-x.x + 1 - 1 ≡ c.loop-x.x = omega arith in rw at c.loop-x.invariant.linked.later)

pub loop-x-preserved : goal.loop-x-preserved
loop-x-preserved c =
    let held = c.loop-x.invariant in
    let enters = c.enter.ensures.entered in
    let last = hash_same c.loop-x.hashed c.enter.new.hashed enters.ways.hashes c.loop-x.x in
    record {
      same = enters.ways.hashes ∙ held.same;
      long = enters.ways.long ∙ held.long;
      len = c.enter.ensures.len ∙ held.len;
      linked = linked_entered c.loop-x.heads c.loop-x.hashed c.loop-x.x _ c.enter.new.heads c.enter.new.hashed c.enter.ensures.len held.linked enters last;
    }
