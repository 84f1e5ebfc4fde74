use Rattle.std.proofs.Common.{◌≡◌, ◌∙◌, ap, length}
use Rattle.hg_model.specs.Shares.{whole}
use Rattle.hg_node.specs.ChronicleView.{ChronicleView, chronicle_news}
use Rattle.hg_node.proofs.PublishLaws.{settling}
use Rattle.hg_node.proofs.node.Node.settle.Given as given
use Rattle.hg_node.proofs.node.Node.settle.Goals as goal

settled : (g : given.Over) (c : goal.In_ok-settle g) → c.settle.new.self ≡ chronicle_news c.self.inside.chronicle.value (length c.self.inside.chronicle.value.graph.rows) whole
settled g c = c.in_ok-settle.ensures.ok ∙ ap (λ (r : ChronicleView). chronicle_news r (length r.graph.rows) whole) c.deref_mut.ensures.value

pub invariant_of-self-2 : goal.invariant_of-self-2
invariant_of-self-2 g c = (settling g.V.Verifier.accepts c.self.inside.keys c.self.inside.chronicle.value c.self.invariant c.settle.new.self (settled g c)).recorded

pub returns-clause-ok : goal.returns-clause-ok
returns-clause-ok g c =
    rw (← c.self.view_is) (settling g.V.Verifier.accepts c.self.inside.keys c.self.inside.chronicle.value c.self.invariant c.settle.new.self (settled g c)).grown

pub returns-clause-settled : goal.returns-clause-settled
returns-clause-settled g c =
    rw (← c.self.view_is) (settling g.V.Verifier.accepts c.self.inside.keys c.self.inside.chronicle.value c.self.invariant c.settle.new.self (settled g c)).settled
