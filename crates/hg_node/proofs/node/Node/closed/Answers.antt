use Rattle.std.proofs.Common.{◌∙◌, ap, sym}
use Rattle.hg_life.specs.History.{State}
use Rattle.hg_model.specs.Order.{last_closed}
use Rattle.hg_model.specs.GraphWords.{last_closed_in}
use Rattle.hg_node.specs.ChronicleView.{ChronicleView}
use Rattle.hg_node.proofs.RecordLaws.{state_is}
use Rattle.hg_node.proofs.node.Node.closed.Goals as goal

pub returns : goal.returns
returns g c =
    rw (← c.self.view_is)
    (c.closed.ensures
    ∙ (ap (λ (r : ChronicleView). last_closed_in r.graph r.marks) c.deref.ensures
    ∙ ap (λ (s : State). last_closed c.self.inside.chronicle.value.graph.members s.links s.marks)
    (sym (state_is g.V.Verifier.accepts c.self.inside.keys c.self.inside.chronicle.value c.self.invariant))))
