use Rattle.std.proofs.Common.{◌∙◌, ap, length, sym}
use Rattle.hg_life.specs.Pay.{Book}
use Rattle.hg_pay.proofs.OrderLaws.{many_effects}
use Rattle.hg_node.specs.ChronicleView.{ChronicleView, book_in}
use Rattle.hg_node.proofs.RecordLaws.{book_is}
use Rattle.hg_node.proofs.node.Node.effects.Goals as goal

pub returns-clause-effects : goal.returns-clause-effects
returns-clause-effects g c =
    rw (← c.self.view_is) (c.effects.ensures
    ∙ (ap (λ (r : ChronicleView). (book_in r).effects) c.deref.ensures
    ∙ ap (λ (b : Book). b.effects) (sym (book_is g.V.Verifier.accepts c.self.inside.keys c.self.inside.chronicle.value c.self.invariant))))

pub returns-clause-each : goal.returns-clause-each
returns-clause-each g c = ap length (returns-clause-effects g c) ∙ many_effects _ _ _
