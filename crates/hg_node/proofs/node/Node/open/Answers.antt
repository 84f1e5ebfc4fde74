use Rattle.std.proofs.Common.{IfOk, subst}
use Rattle.hg_node.specs.ChronicleView.{ChronicleView}
use Rattle.hg_node.specs.Opening.{Opens}
use Rattle.hg_node.proofs.OpenLaws.{opens_by_node}
use Rattle.hg_node.proofs.node.Node.open.Goals as goal

pub returns-clause-opens : goal.returns-clause-opens
returns-clause-opens g c =
    rw (← c.self.view_is)
    (opens_by_node g.V.Verifier.accepts c.self.inside.keys c.self.inside.chronicle.value c.self.invariant c.args.share c.open.result
    (subst (λ (r : ChronicleView). IfOk c.open.result (Opens r.graph r.marks c.args.share)) c.deref_mut.ensures.value c.open.ensures.opens))
