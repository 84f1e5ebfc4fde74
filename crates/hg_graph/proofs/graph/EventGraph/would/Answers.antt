use Rattle.std.proofs.Common.{◌∙◌, ◌++◌, ◌∷◌, [], ap, sym, subst}
use Rattle.hg_model.specs.Forks.{forking}
use Rattle.hg_model.specs.Links.{links}
use Rattle.hg_model.specs.Shape.{Shape, FitsLink, link_of}
use Rattle.hg_forks.specs.SelfLinks.{self_link_of}
use Rattle.hg_graph.specs.Held.{GraphWithRoom}
use Rattle.hg_graph.proofs.HeldLaws.{self_fits, self_forking}
use Rattle.hg_graph.proofs.graph.EventGraph.would.Goals as goal

pub would-requires : goal.would-requires
would-requires c =
    let fits = subst (λ (v : GraphWithRoom). FitsLink v.graph.members (links v.graph.rows) (link_of c.args.creator c.args.parents.now)) (sym c.self.view_is) c.requires in
    subst (λ (s : Shape). FitsLink s.members s.links (self_link_of c.args.creator c.self_parent.result)) (sym c.self.invariant.forked)
    (self_fits c.self.inside.sight.shape.members (links c.self.inside.store.rows) c.args.creator c.args.parents.now c.self_parent.result c.self_parent.ensures fits)

pub returns : goal.returns
returns c =
    c.would.ensures
    ∙ (ap (λ (s : Shape). forking s.members (s.links ++ self_link_of c.args.creator c.self_parent.result ∷ [])) c.self.invariant.forked
    ∙ (self_forking c.self.inside.sight.shape.members (links c.self.inside.store.rows) c.args.creator c.args.parents.now c.self_parent.result c.self_parent.ensures
    ∙ ap (λ (v : GraphWithRoom). forking v.graph.members (links v.graph.rows ++ link_of c.args.creator c.args.parents.now ∷ [])) c.self.view_is))
