use Rattle.std.proofs.Common.{◌∙◌, ◌+◌, ◌++◌, ◌∷◌, [], List, ap, ap₂, sym, subst, arith}
use Rattle.hg_model.specs.Stakes.{Stakes}
use Rattle.hg_model.specs.Forks.{forking}
use Rattle.hg_model.specs.Shape.{FitsLink, ShapeWithRoom}
use Rattle.hg_forks.specs.SelfLinks.{self_link_of}
use Rattle.hg_forks.specs.declared.line.Line.{Line}
use Rattle.hg_forks.specs.Lines.{new_forking}
use Rattle.hg_forks.proofs.WatchLaws.{forking_next, forking-fit}
use Rattle.hg_forks.proofs.watch.Watch.would.Goals as goal

pub overflow_add-result : goal.overflow_add-result
overflow_add-result c =
    let more = c.new_forking.ensures ∙ ap₂ (λ (n : Stakes) (xs : List Line). new_forking n xs c.args.creator c.args.self_parent) c.deref-2.ensures.value c.deref.ensures.value in
    let fits = subst (λ (w : ShapeWithRoom). FitsLink w.shape.members w.shape.links (self_link_of c.args.creator c.args.self_parent)) (sym c.self.view_is) c.requires in
    omega (arith, more, forking-fit _ _ _ _ _ c.self.invariant _ _ fits)

pub returns : goal.returns
returns c =
    let more = c.new_forking.ensures ∙ ap₂ (λ (n : Stakes) (xs : List Line). new_forking n xs c.args.creator c.args.self_parent) c.deref-2.ensures.value c.deref.ensures.value in
    let fits = subst (λ (w : ShapeWithRoom). FitsLink w.shape.members w.shape.links (self_link_of c.args.creator c.args.self_parent)) (sym c.self.view_is) c.requires in
    ap (λ k. c.self.inside.forking + k) more
    ∙ (forking_next _ _ _ _ _ c.self.invariant _ _ fits
    ∙ ap (λ (w : ShapeWithRoom). forking w.shape.members (w.shape.links ++ self_link_of c.args.creator c.args.self_parent ∷ [])) c.self.view_is)
