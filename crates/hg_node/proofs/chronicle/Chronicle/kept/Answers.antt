use Rattle.std.proofs.Common.{◌<◌, All, List, length, subst, sym}
use Rattle.hg_model.specs.declared.row.Placed.{Placed}
use Rattle.hg_node.proofs.BookLaws.{kept_within}
use Rattle.hg_node.proofs.chronicle.Chronicle.kept.Goals as goal

pub returns-clause-places : goal.returns-clause-places
returns-clause-places c =
    rw (← c.self.view_is)
    (subst (λ (order : List Placed). All (λ (p : Placed). p.place < length c.self.inside.graph.graph.rows) order) (sym c.order.ensures)
    (kept_within c.self.inside.graph.graph c.self.inside.kept.published c.self.invariant.0.keeps))
