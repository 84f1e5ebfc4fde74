use Rattle.std.proofs.Common.{◌∙◌, ap}
use Rattle.hg_model.specs.Forks.{forkers}
use Rattle.hg_model.specs.Links.{links}
use Rattle.hg_model.specs.Shape.{Shape}
use Rattle.hg_forks.proofs.SelfLaws.{self_links_serve}
use Rattle.hg_graph.specs.Held.{GraphWithRoom}
use Rattle.hg_graph.proofs.graph.EventGraph.forkers.Goals as goal

pub returns : goal.returns
returns c =
    c.forkers.ensures
    ∙ (ap (λ (s : Shape). forkers s.members s.links) c.self.invariant.forked
    ∙ ((self_links_serve c.self.inside.sight.shape.members (links c.self.inside.store.rows)).forkers
    ∙ ap (λ (v : GraphWithRoom). forkers v.graph.members (links v.graph.rows)) c.self.view_is))
