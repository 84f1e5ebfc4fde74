use Rattle.std.proofs.Common.{subst}
use Rattle.std.specs.Prelude.{IfSome, ◌<◌, length}
use Rattle.hg_node.specs.ChronicleView.{ChronicleView}
use Rattle.hg_node.proofs.LastLaws.{last_inside}
use Rattle.hg_node.proofs.chronicle.Chronicle.last_own.Goals as goal

pub returns-clause-inside : goal.returns-clause-inside
returns-clause-inside c =
    subst (λ (r : ChronicleView). IfSome c.self.inside.last_own (λ place. place < length r.graph.rows)) c.self.view_is
    (last_inside c.self.inside.own c.self.inside.graph.graph.rows c.self.inside.last_own c.self.invariant.0.keeps.graph.distinct c.self.invariant.0.last)
