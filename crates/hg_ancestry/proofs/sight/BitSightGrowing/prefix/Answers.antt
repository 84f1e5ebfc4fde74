use Rattle.std.proofs.Common.{◌≤◌, ◌∙◌, sym, ap, subst, take, length, arith}
use Rattle.hg_model.specs.Shape.{ShapeWithRoom}
use Rattle.hg_ancestry.proofs.GrowLaws.{sight_take}
use Rattle.hg_ancestry.proofs.sight.BitSightGrowing.prefix.Goals as goal

pub invariant_of-result : goal.invariant_of-result
invariant_of-result c =
    let len = c.args.len in
    let links = c.in_ok-copy_links.ensures ∙ ap (take len) c.deref.ensures.value in
    let rows = c.in_ok-copy_rows.ensures ∙ ap (take len) c.deref-2.ensures.value in
    let masks = c.in_ok-copy_masks.ensures ∙ ap (take len) c.deref-3.ensures.value in
    let le = subst (λ (g : ShapeWithRoom). len ≤ length g.shape.links) (sym c.self.view_is) c.requires in
    record {
      sight = rw (c.in_ok-copy.ensures, links, rows, masks) (sight_take c.self.inside.stakes c.self.inside.links.items c.self.inside.ancestors.items c.self.inside.forked.items len le c.self.invariant.sight);
      spare = tt;
      links_room = omega arith;
      ancestors_room = omega arith;
      forked_room = omega arith;
    }
