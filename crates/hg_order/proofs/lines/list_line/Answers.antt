use Rattle.std.proofs.Common.{◌∙◌, refl, sym, subst, arith}
use Rattle.hg_model.specs.Places.{IsEarlier}
use Rattle.hg_model.specs.Links.{parents}
use Rattle.hg_model.specs.Shape.{Shape}
use Rattle.hg_order.proofs.LineLaws.{self_parent_before}
use Rattle.hg_order.proofs.ListingLaws.{walk_one, walk_next}
use Rattle.hg_order.proofs.lines.list_line.Goals as goal

pub loop-parent-init : goal.loop-parent-init
loop-parent-init g c =
    let e = subst (λ (s : Shape). IsEarlier (parents s.links)) (sym c.is_of_graph.ensures.matches.shaped) c.is_of_graph.ensures.shaped.earlier in
    record {
      walks = rw (c.if-not-push_row.ensures.pushed refl) (walk_one _ _ e c.args.w c.args.lines.now.items);
      inside = c.requires;
      room = c.push_row.ensures.room;
    }

pub loop-parent-smaller : goal.loop-parent-smaller
loop-parent-smaller g c =
    let e = subst (λ (s : Shape). IsEarlier (parents s.links)) (sym c.is_of_graph.ensures.matches.shaped) c.is_of_graph.ensures.shaped.earlier in
    self_parent_before _ e _ _ c.in-Some.ensures.0

pub push_row-requires-in-Some : goal.push_row-requires-in-Some
push_row-requires-in-Some g c =
    let e = subst (λ (s : Shape). IsEarlier (parents s.links)) (sym c.is_of_graph.ensures.matches.shaped) c.is_of_graph.ensures.shaped.earlier in
    let before = self_parent_before _ e _ _ c.in-Some.ensures.0 in
    let inside = c.loop-parent.invariant.inside in
    omega arith

pub loop-parent-preserved : goal.loop-parent-preserved
loop-parent-preserved g c =
    let e = subst (λ (s : Shape). IsEarlier (parents s.links)) (sym c.is_of_graph.ensures.matches.shaped) c.is_of_graph.ensures.shaped.earlier in
    let before = self_parent_before _ e _ _ c.in-Some.ensures.0 in
    let inside = c.loop-parent.invariant.inside in
    record {
      walks = rw (c.if-not-push_row-2.ensures.pushed refl) (walk_next _ _ e _ _ _ _ _ c.loop-parent.invariant.walks c.in-Some.ensures.0);
      inside = omega arith;
      room = c.push_row-in-Some.ensures.room ∙ c.loop-parent.invariant.room;
    }
