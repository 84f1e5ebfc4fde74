use Rattle.std.proofs.Common.{◌≡◌, ◌∙◌, ℕ, sym, subst, Option, arith}
use Rattle.hg_model.specs.Links.{self_parent}
use Rattle.hg_model.specs.Shape.{place_list}
use Rattle.hg_model.proofs.AncestryLaws.{is_self_ancestor_self}
use Rattle.hg_branches.proofs.LineSeenLaws.{line_yes, line_no, line_end, line_next, line_on, line_lower}
use Rattle.hg_branches.proofs.seeing.line_sees.Goals as goal

pub line-init : goal.line-init
line-init c = record {
  there = c.requires.left;
  on = is_self_ancestor_self c.args.sight.now.shape.links c.is_shaped.ensures.shaped.earlier c.args.z;
  below = λ w on seen. on;
}

pub returns-then-sees : goal.returns-then-sees
returns-then-sees c =
    sym (line_yes c.args.sight.now.shape.links c.is_shaped.ensures.shaped.earlier c.args.z c.line.at c.args.y c.line.invariant.on (sym c.sees.ensures ∙ c.if-sees.true))

pub returns-then-not-ancestor : goal.returns-then-not-ancestor
returns-then-not-ancestor c =
    sym (line_no c.args.sight.now.shape.links c.is_shaped.ensures.shaped.earlier c.args.z c.line.at c.args.y c.line.invariant.below (sym c.ancestor.ensures ∙ c.if-not-ancestor.true))

pub returns-in-None : goal.returns-in-None
returns-in-None c =
    let L = c.args.sight.now.shape.links in
    sym (line_end L c.is_shaped.ensures.shaped.earlier c.args.z c.line.at c.args.y c.line.invariant.below (sym c.sees.ensures ∙ c.if-sees.false)
    (subst (λ (o : Option ℕ). place_list o ≡ self_parent L c.line.at) c.in-None.is c.self_parent.ensures))

pub line-smaller : goal.line-smaller
line-smaller c =
    let L = c.args.sight.now.shape.links in
    line_lower L c.is_shaped.ensures.shaped.earlier c.line.at c.in-Some.parent (subst (λ (o : Option ℕ). place_list o ≡ self_parent L c.line.at) c.in-Some.is c.self_parent.ensures)

pub line-preserved : goal.line-preserved
line-preserved c =
    let L = c.args.sight.now.shape.links in
    let e = c.is_shaped.ensures.shaped.earlier in
    let next = subst (λ (o : Option ℕ). place_list o ≡ self_parent L c.line.at) c.in-Some.is c.self_parent.ensures in
    let low = line_lower L e c.line.at c.in-Some.parent next in
    let there = c.line.invariant.there in
    record {
      there = omega (arith, low, there);
      on = line_on L e c.args.z c.line.at c.in-Some.parent c.line.invariant.on next;
      below = line_next L e c.args.z c.line.at c.in-Some.parent c.args.y c.line.invariant.below (sym c.sees.ensures ∙ c.if-sees.false) next;
    }
