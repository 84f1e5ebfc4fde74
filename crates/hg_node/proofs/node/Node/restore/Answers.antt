use Rattle.std.proofs.Common.{◌<◌, [], ◌∷◌, ◌++◌, ◌∙◌, length, ap, subst, sym, arith}
use Rattle.hg_event.specs.View.{row_of}
use Rattle.hg_model.specs.Graph.{IsGraph}
use Rattle.hg_node.specs.ChronicleView.{ChronicleView, node_view}
use Rattle.hg_node.specs.Puts.{back_rules}
use Rattle.hg_node.proofs.BackLaws.{IsRestored, back_ends, back_refused, back_taken, restore_faulty}
use Rattle.hg_node.proofs.node.Node.restore.Given as given
use Rattle.hg_node.proofs.node.Node.restore.Goals as goal

pub returns-in-Err-clause-answer : goal.returns-in-Err-clause-answer
returns-in-Err-clause-answer g c = (restore_faulty g.V.Verifier.accepts c.args.self.now c.args.bytes.now c.in-Err.fault c.in-Err.ensures.exact).0

pub returns-in-Err-clause-ok : goal.returns-in-Err-clause-ok
returns-in-Err-clause-ok g c = (restore_faulty g.V.Verifier.accepts c.args.self.now c.args.bytes.now c.in-Err.fault c.in-Err.ensures.exact).1

pub take_back-requires-clause-limit : goal.take_back-requires-clause-limit
take_back-requires-clause-limit g c =
    subst (λ (r : ChronicleView). length r.graph.rows < r.limit) (sym c.deref_mut.ensures.value)
    (back_taken g.V.Verifier.accepts c.self.inside.keys c.self.inside.chronicle.value c.args.bytes.now c.self.invariant (row_of c.in-Ok.view) c.in-Ok.ensures.exact
    (λ i. omega (arith, c.type_inv.bytes i)) (c.in-Ok-parents_of_restore.ensures.answer ∙ ap (λ (r : ChronicleView). back_rules (g.V.Verifier.accepts c.self.inside.keys) r (row_of c.in-Ok.view)) c.deref.ensures)).limit

pub take_back-requires-clause-graph : goal.take_back-requires-clause-graph
take_back-requires-clause-graph g c =
    subst (λ (r : ChronicleView). IsGraph r.graph.members (r.graph.rows ++ row_of c.in-Ok.view ∷ [])) (sym c.deref_mut.ensures.value)
    (back_taken g.V.Verifier.accepts c.self.inside.keys c.self.inside.chronicle.value c.args.bytes.now c.self.invariant (row_of c.in-Ok.view) c.in-Ok.ensures.exact
    (λ i. omega (arith, c.type_inv.bytes i)) (c.in-Ok-parents_of_restore.ensures.answer ∙ ap (λ (r : ChronicleView). back_rules (g.V.Verifier.accepts c.self.inside.keys) r (row_of c.in-Ok.view)) c.deref.ensures)).graph

-- all that the taking left
ends : (g : given.Over) (c : goal.After-self-1 g) → IsRestored g.V.Verifier.accepts (node_view c.self.inside.keys c.self.inside.chronicle.value)
    (node_view c.self.inside.keys c.take_back.new.chronicle) c.take_back.new.chronicle c.args.bytes.now c.take_back.result
ends g c =
    back_ends g.V.Verifier.accepts c.self.inside.keys c.self.inside.chronicle.value c.args.bytes.now c.self.invariant (row_of c.in-Ok.view) c.in-Ok.ensures.exact
    c.take_back.result c.take_back.new.chronicle c.deref_mut.result.now c.deref_mut.ensures.value (λ i. omega (arith, c.type_inv.bytes i)) (c.in-Ok-parents_of_restore.ensures.answer ∙ ap (λ (r : ChronicleView). back_rules (g.V.Verifier.accepts c.self.inside.keys) r (row_of c.in-Ok.view)) c.deref.ensures) c.take_back.ensures.answer c.take_back.ensures.ok c.take_back.ensures.err

pub invariant_of-self : goal.invariant_of-self
invariant_of-self g c = (ends g c).recorded

pub returns-in-Ok-parents_of_restore-clause-answer : goal.returns-in-Ok-parents_of_restore-clause-answer
returns-in-Ok-parents_of_restore-clause-answer g c = rw (← c.self.view_is) (ends g c).answer

pub returns-in-Ok-parents_of_restore-clause-ok : goal.returns-in-Ok-parents_of_restore-clause-ok
returns-in-Ok-parents_of_restore-clause-ok g c = rw (← c.self.view_is) (ends g c).ok

pub returns-in-Ok-parents_of_restore-clause-free : goal.returns-in-Ok-parents_of_restore-clause-free
returns-in-Ok-parents_of_restore-clause-free g c = rw (← c.self.view_is) (ends g c).free

pub returns-in-Err-parents_of_restore-clause-answer : goal.returns-in-Err-parents_of_restore-clause-answer
returns-in-Err-parents_of_restore-clause-answer g c =
    rw (← c.self.view_is)
    (back_refused g.V.Verifier.accepts c.self.inside.keys c.self.inside.chronicle.value c.args.bytes.now c.self.invariant (row_of c.in-Ok.view) c.in-Ok.ensures.exact
    c.in-Err-parents_of_restore.answer (c.in-Err-parents_of_restore.ensures.answer ∙ ap (λ (r : ChronicleView). back_rules (g.V.Verifier.accepts c.self.inside.keys) r (row_of c.in-Ok.view)) c.deref.ensures)).0

pub returns-in-Err-parents_of_restore-clause-ok : goal.returns-in-Err-parents_of_restore-clause-ok
returns-in-Err-parents_of_restore-clause-ok g c =
    rw (← c.self.view_is)
    (back_refused g.V.Verifier.accepts c.self.inside.keys c.self.inside.chronicle.value c.args.bytes.now c.self.invariant (row_of c.in-Ok.view) c.in-Ok.ensures.exact
    c.in-Err-parents_of_restore.answer (c.in-Err-parents_of_restore.ensures.answer ∙ ap (λ (r : ChronicleView). back_rules (g.V.Verifier.accepts c.self.inside.keys) r (row_of c.in-Ok.view)) c.deref.ensures)).1
