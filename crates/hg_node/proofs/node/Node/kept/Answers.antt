use Rattle.std.proofs.Common.{◌<◌, ◌∙◌, All, List, length, ap, subst, sym}
use Rattle.hg_model.specs.declared.row.Placed.{Placed}
use Rattle.hg_model.specs.declared.row.Row.{Row}
use Rattle.hg_life.specs.Kept.{kept}
use Rattle.hg_node.specs.ChronicleView.{ChronicleView, chronicle_state}
use Rattle.hg_node.proofs.RecordLaws.{state_is}
use Rattle.hg_node.proofs.node.Node.kept.Goals as goal

pub returns-clause-order : goal.returns-clause-order
returns-clause-order g c =
    rw (← c.self.view_is)
    (c.kept.ensures.order
    ∙ (ap (λ (r : ChronicleView). kept r.graph.members (chronicle_state r)) c.deref.ensures
    ∙ ap (kept c.self.inside.chronicle.value.graph.members) (sym (state_is g.V.Verifier.accepts c.self.inside.keys c.self.inside.chronicle.value c.self.invariant))))

pub returns-clause-places : goal.returns-clause-places
returns-clause-places g c =
    rw (← c.self.view_is) (subst (λ (G : List Row). All (λ (p : Placed). p.place < length G) c.kept.result.now) (sym c.self.invariant.rows)
    (subst (λ (r : ChronicleView). All (λ (p : Placed). p.place < length r.graph.rows) c.kept.result.now) c.deref.ensures c.kept.ensures.places))
