use Rattle.std.proofs.Common.{◌∙◌, ap, List, sym}
use Rattle.hg_model.specs.declared.row.Row.{Row}
use Rattle.hg_model.specs.Prefix.{Graph}
use Rattle.hg_model.specs.Links.{links}
use Rattle.hg_model.specs.Rounds.{last_round}
use Rattle.hg_model.proofs.StandingLaws.{greatest_in-standings}
use Rattle.hg_node.specs.ChronicleView.{ChronicleView}
use Rattle.hg_node.proofs.node.Node.greatest.Goals as goal

pub returns : goal.returns
returns g c =
    rw (← c.self.view_is)
    (c.greatest.ensures ∙ (greatest_in-standings c.graph.result.now.graph.members (links c.graph.result.now.graph.rows)
    ∙ (ap (λ (G : Graph). last_round G.members (links G.rows)) (c.graph.ensures ∙ ap (λ (r : ChronicleView). r.graph) c.deref.ensures) ∙ ap (λ (G : List Row). last_round c.self.inside.chronicle.value.graph.members (links G)) (sym c.self.invariant.rows))))
