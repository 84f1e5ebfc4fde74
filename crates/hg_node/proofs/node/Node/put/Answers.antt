use Rattle.std.proofs.Common.{[], ◌∷◌, ◌++◌, ◌∙◌, ap, subst, sym, arith}
use Rattle.hg_event.specs.View.{row_of}
use Rattle.hg_model.specs.Graph.{IsGraph}
use Rattle.hg_node.specs.ChronicleView.{ChronicleView, node_view}
use Rattle.hg_node.specs.Puts.{put_rules}
use Rattle.hg_node.proofs.PutLaws.{IsPut, put_faulty, put_refused, put_taken, put_ends_as}
use Rattle.hg_node.proofs.node.Node.put.Given as given
use Rattle.hg_node.proofs.node.Node.put.Goals as goal

pub returns-in-Err-clause-answer : goal.returns-in-Err-clause-answer
returns-in-Err-clause-answer g c = (put_faulty g.V.Verifier.accepts c.args.self.now c.args.bytes.now c.in-Err.fault c.in-Err.ensures.exact).0

pub returns-in-Err-clause-ok : goal.returns-in-Err-clause-ok
returns-in-Err-clause-ok g c = (put_faulty g.V.Verifier.accepts c.args.self.now c.args.bytes.now c.in-Err.fault c.in-Err.ensures.exact).1

pub take-requires-clause-graph : goal.take-requires-clause-graph
take-requires-clause-graph g c =
    subst (λ (r : ChronicleView). IsGraph r.graph.members (r.graph.rows ++ row_of c.in-Ok.view ∷ [])) (sym c.deref_mut.ensures.value)
    (put_taken g.V.Verifier.accepts c.self.inside.keys c.self.inside.chronicle.value c.args.bytes.now c.self.invariant (row_of c.in-Ok.view) c.in-Ok.ensures.exact
    (λ i. omega (arith, c.type_inv.bytes i)) (c.in-Ok-parents_of_put.ensures.answer ∙ ap (λ (r : ChronicleView). put_rules (g.V.Verifier.accepts c.self.inside.keys) r (row_of c.in-Ok.view)) c.deref.ensures)).graph

-- all that the taking left
ends : (g : given.Over) (c : goal.After-self-1 g) → IsPut g.V.Verifier.accepts (node_view c.self.inside.keys c.self.inside.chronicle.value)
    (node_view c.self.inside.keys c.take.new.chronicle) c.take.new.chronicle c.args.bytes.now c.take.result
ends g c =
    put_ends_as g.V.Verifier.accepts c.self.inside.keys c.self.inside.chronicle.value c.args.bytes.now c.self.invariant (row_of c.in-Ok.view) c.in-Ok.ensures.exact
    c.take.result c.take.new.chronicle c.deref_mut.result.now c.deref_mut.ensures.value (λ i. omega (arith, c.type_inv.bytes i)) (c.in-Ok-parents_of_put.ensures.answer ∙ ap (λ (r : ChronicleView). put_rules (g.V.Verifier.accepts c.self.inside.keys) r (row_of c.in-Ok.view)) c.deref.ensures) c.take.ensures.answer c.take.ensures.ok c.take.ensures.err

pub invariant_of-self : goal.invariant_of-self
invariant_of-self g c = (ends g c).recorded

pub returns-in-Ok-parents_of_put-clause-answer : goal.returns-in-Ok-parents_of_put-clause-answer
returns-in-Ok-parents_of_put-clause-answer g c = rw (← c.self.view_is) (ends g c).answer

pub returns-in-Ok-parents_of_put-clause-ok : goal.returns-in-Ok-parents_of_put-clause-ok
returns-in-Ok-parents_of_put-clause-ok g c = rw (← c.self.view_is) (ends g c).ok

pub returns-in-Ok-parents_of_put-clause-free : goal.returns-in-Ok-parents_of_put-clause-free
returns-in-Ok-parents_of_put-clause-free g c = rw (← c.self.view_is) (ends g c).free

pub returns-in-Err-parents_of_put-clause-answer : goal.returns-in-Err-parents_of_put-clause-answer
returns-in-Err-parents_of_put-clause-answer g c =
    rw (← c.self.view_is)
    (put_refused g.V.Verifier.accepts c.self.inside.keys c.self.inside.chronicle.value c.args.bytes.now c.self.invariant (row_of c.in-Ok.view) c.in-Ok.ensures.exact
    c.in-Err-parents_of_put.answer (c.in-Err-parents_of_put.ensures.answer ∙ ap (λ (r : ChronicleView). put_rules (g.V.Verifier.accepts c.self.inside.keys) r (row_of c.in-Ok.view)) c.deref.ensures)).0

pub returns-in-Err-parents_of_put-clause-ok : goal.returns-in-Err-parents_of_put-clause-ok
returns-in-Err-parents_of_put-clause-ok g c =
    rw (← c.self.view_is)
    (put_refused g.V.Verifier.accepts c.self.inside.keys c.self.inside.chronicle.value c.args.bytes.now c.self.invariant (row_of c.in-Ok.view) c.in-Ok.ensures.exact
    c.in-Err-parents_of_put.answer (c.in-Err-parents_of_put.ensures.answer ∙ ap (λ (r : ChronicleView). put_rules (g.V.Verifier.accepts c.self.inside.keys) r (row_of c.in-Ok.view)) c.deref.ensures)).1
