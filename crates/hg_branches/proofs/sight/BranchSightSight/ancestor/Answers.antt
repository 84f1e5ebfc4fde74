use Rattle.std.proofs.Common.{◌≡◌, ◌<◌, ◌∙◌, ℕ, [], ap, sym, subst, nat_lt, length, get_or, arith}
use Rattle.std.proofs.lemmas.List.{get_or_read}
use Rattle.hg_model.specs.Ancestry.{is_ancestor}
use Rattle.hg_model.specs.Shape.{ShapeWithRoom}
use Rattle.hg_branches.proofs.sight.BranchSightSight.ancestor.Goals as goal

pub returns : goal.returns
returns c =
    let s = c.self.inside in
    let L = s.links.items in
    let right : c.args.y < length L = subst (λ (g : ShapeWithRoom). c.args.y < length g.shape.links) (sym c.self.view_is) c.requires.right in
    let left : c.args.x < length L = subst (λ (g : ShapeWithRoom). c.args.x < length g.shape.links) (sym c.self.view_is) c.requires.left in
    let rows = c.self.invariant.branches.rows in
    let branch : c.index.result.now ≡ get_or s.branches.items c.args.y 0 = get_or_read s.branches.items c.args.y c.index.result.now (omega (arith, rows)) c.index.ensures 0 in
    let count : c.at.result ≡ get_or (get_or s.counts.rows c.args.x []) (get_or s.branches.items c.args.y 0) 0 =
    c.at.ensures ∙ ap (λ (b : ℕ). get_or (get_or s.counts.rows c.args.x []) b 0) branch in
    subst (λ (g : ShapeWithRoom). nat_lt c.args.y c.at.result ≡ is_ancestor g.shape.links c.args.x c.args.y) c.self.view_is
    (ap (λ k. nat_lt c.args.y k) count ∙ (c.self.invariant.counts.row c.args.x left).told c.args.y right)
