use Rattle.std.proofs.Common.{◌≡◌, ◌<◌, ◌∙◌, sym, ap, subst, nat_le, length, arith}
use Rattle.std.proofs.lemmas.Bool.{false_from_ne_true, leb-true}
use Rattle.hg_model.specs.Ancestry.{is_ancestor}
use Rattle.hg_model.specs.Shape.{ShapeWithRoom}
use Rattle.hg_model.proofs.AncestryLaws.{is_ancestor-le}
use Rattle.hg_ancestry.specs.Held.{row_at}
use Rattle.hg_ancestry.proofs.HeldLaws.{row_long, row_says}
use Rattle.hg_ancestry.proofs.sight.BitSightSight.ancestor.Goals as goal

pub has-requires : goal.has-requires
has-requires c =
    let L = c.self.inside.links.items in
    let inside : c.args.x < length L = subst (λ (g : ShapeWithRoom). c.args.x < length g.shape.links) (sym c.self.view_is) c.requires.left in
    let row_is = c.row_of-row.ensures ∙ (ap (λ rows. row_at rows c.args.x) c.deref.ensures.value ∙ c.self.invariant.sight.ancestors.row c.args.x inside) in
    omega (arith, row_long L c.args.x c.row_of-row.result.now row_is, c.if-y-x.true)

pub returns-then-y-x : goal.returns-then-y-x
returns-then-y-x c =
    let L = c.self.inside.links.items in
    let inside : c.args.x < length L = subst (λ (g : ShapeWithRoom). c.args.x < length g.shape.links) (sym c.self.view_is) c.requires.left in
    let row_is = c.row_of-row.ensures ∙ (ap (λ rows. row_at rows c.args.x) c.deref.ensures.value ∙ c.self.invariant.sight.ancestors.row c.args.x inside) in
    subst (λ (g : ShapeWithRoom). c.has.result ≡ is_ancestor g.shape.links c.args.x c.args.y) c.self.view_is
    (c.has.ensures ∙ row_says L c.self.invariant.sight.shaped.earlier c.args.x c.args.y c.row_of-row.result.now row_is)

pub returns-else-y-x : goal.returns-else-y-x
returns-else-y-x c =
    let L = c.self.inside.links.items in
    subst (λ (g : ShapeWithRoom). nat_le c.args.y c.args.x ≡ is_ancestor g.shape.links c.args.x c.args.y) c.self.view_is
    (false_from_ne_true (nat_le c.args.y c.args.x) (λ le. absurd (omega (arith, leb-true c.args.y c.args.x le, c.if-y-x.false)))
    ∙ sym (false_from_ne_true (is_ancestor L c.args.x c.args.y) (λ up. absurd (omega (arith, is_ancestor-le L c.self.invariant.sight.shaped.earlier c.args.x c.args.y up, c.if-y-x.false)))))
