use Rattle.std.proofs.Common.{◌≡◌, ◌<◌, ◌+◌, sym, ap, subst, length, vec_len, arith}
use Rattle.hg_model.specs.Shape.{ShapeWithRoom, FitsLink, link_of}
use Rattle.hg_ancestry.specs.Held.{IsSpare, spare_room}
use Rattle.hg_ancestry.proofs.HeldLaws.{places_kept}
use Rattle.hg_ancestry.proofs.GrowLaws.{sight_grown}
use Rattle.hg_ancestry.proofs.sight.BitSightGrowing.extend.Goals as goal

pub of-requires-clause-places : goal.of-requires-clause-places
of-requires-clause-places c =
    let fits = subst (λ (g : ShapeWithRoom). FitsLink g.shape.members g.shape.links (link_of c.args.creator c.args.parents.now)) (sym c.self.view_is) c.requires.fits in
    let few = subst (λ (g : ShapeWithRoom). length g.shape.links + 1 < 4294967295) (sym c.self.view_is) c.requires.short in
    let short : length c.self.inside.links.items + 1 < 4294967295 = omega (arith, few) in
    places_kept c.self.inside.stakes c.self.inside.links.items c.args.creator c.args.parents.now fits short

pub invariant_of-self-in-Some : goal.invariant_of-self-in-Some
invariant_of-self-in-Some c =
    let L = c.self.inside.links.items in
    let fits = subst (λ (g : ShapeWithRoom). FitsLink g.shape.members g.shape.links (link_of c.args.creator c.args.parents.now)) (sym c.self.view_is) c.requires.fits in
    let few = subst (λ (g : ShapeWithRoom). length g.shape.links + 1 < 4294967295) (sym c.self.view_is) c.requires.short in
    let short : length L + 1 < 4294967295 = omega (arith, few) in
    let none : spare_room c.take.new.self ≡ 0 = ap spare_room c.take.ensures.after in
    record {
      sight = rw (c.push_reserved.ensures.items, c.push_reserved-in-Some.ensures.items, c.push_reserved-in-Some-2.ensures.items, c.of.ensures)
          (sight_grown c.self.inside.stakes L c.args.creator c.args.parents.now c.self.inside.ancestors.items c.self.inside.forked.items c.fill-forked.new.row c.fill-forked.result
          c.self.invariant.sight fits short c.fill-forked.ensures.row c.fill-forked.ensures.forks);
      spare = subst (IsSpare (vec_len c.push_reserved.new.self)) (sym c.take.ensures.after) tt;
      links_room = omega (arith, none);
      ancestors_room = omega (arith, none);
      forked_room = omega (arith, none);
    }
