use Rattle.std.proofs.Common.{◌≡◌, ◌≤◌, ◌∙◌, ◌++◌, ◌∷◌, [], List, ap, ap₂, rules, sym, subst, arith, length}
use Rattle.hg_model.specs.Stakes.{Stakes}
use Rattle.hg_model.specs.Shape.{FitsLink}
use Rattle.hg_forks.specs.SelfLinks.{self_link_of}
use Rattle.hg_model.specs.Shape.{ShapeWithRoom}
use Rattle.hg_forks.specs.declared.line.Line.{Line}
use Rattle.hg_forks.specs.Lines.{new_forkers, new_forking, next_line, line_at}
use Rattle.hg_forks.proofs.SelfLaws.{place_kept}
use Rattle.hg_forks.proofs.WatchLaws.{forkers-fit, forking-fit, keeps_added}
use Rattle.hg_forks.proofs.watch.Watch.add.Goals as goal

pub overflow_add-self : goal.overflow_add-self
overflow_add-self c =
    let more = c.new_forkers.ensures ∙ ap (λ xs. new_forkers xs c.args.creator c.args.self_parent) c.deref.ensures.value in
    let fits = subst (λ (w : ShapeWithRoom). FitsLink w.shape.members w.shape.links (self_link_of c.args.creator c.args.self_parent)) (sym c.self.view_is) c.requires.fits in
    omega (arith, more, forkers-fit _ _ _ _ _ c.self.invariant _ _ fits)

pub overflow_add-self-2 : goal.overflow_add-self-2
overflow_add-self-2 c =
    let more = c.new_forking.ensures ∙ ap₂ (λ (n : Stakes) (xs : List Line). new_forking n xs c.args.creator c.args.self_parent) c.deref-3.ensures.value c.deref-2.ensures.value in
    let fits = subst (λ (w : ShapeWithRoom). FitsLink w.shape.members w.shape.links (self_link_of c.args.creator c.args.self_parent)) (sym c.self.view_is) c.requires.fits in
    omega (arith, more, forking-fit _ _ _ _ _ c.self.invariant _ _ fits)

pub of-requires : goal.of-requires
of-requires c =
    let fits = subst (λ (w : ShapeWithRoom). FitsLink w.shape.members w.shape.links (self_link_of c.args.creator c.args.self_parent)) (sym c.self.view_is) c.requires.fits in
    let room = subst (λ (w : ShapeWithRoom). 1 ≤ w.room) (sym c.self.view_is) c.requires.room in
    place_kept _ _ _ c.args.self_parent fits (omega (arith, room))

pub invariant_of-self : goal.invariant_of-self
invariant_of-self c =
    let lines = c.self.inside.lines.items in
    let fits = subst (λ (w : ShapeWithRoom). FitsLink w.shape.members w.shape.links (self_link_of c.args.creator c.args.self_parent)) (sym c.self.view_is) c.requires.fits in
    let line : c.line_at.result ≡ line_at lines c.args.creator = c.line_at.ensures ∙ ap (λ xs. line_at xs c.args.creator) c.deref-4.ensures.value in
    let next : c.next_line-line.result ≡ next_line (line_at lines c.args.creator) c.args.self_parent (length c.self.inside.rows.items) =
    c.next_line-line.ensures ∙ ap₂ (λ l x. next_line l c.args.self_parent x) line (search rules) in
    keeps_added _ _ _ _ _ c.self.invariant _ _ fits _ _ _ _ _ (c.push_reserved.ensures.items ∙ ap (λ link. c.self.inside.rows.items ++ link ∷ []) c.of.ensures) c.from.ensures (ap (Rattle.std.proofs.Common.slice_set lines c.from.result) next)
    (c.new_forkers.ensures ∙ ap (λ xs. new_forkers xs c.args.creator c.args.self_parent) c.deref.ensures.value)
    (c.new_forking.ensures ∙ ap₂ (λ (n : Stakes) (xs : List Line). new_forking n xs c.args.creator c.args.self_parent) c.deref-3.ensures.value c.deref-2.ensures.value)
