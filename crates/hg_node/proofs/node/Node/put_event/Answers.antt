use Rattle.std.proofs.Common.{[], ◌∷◌, ◌++◌, ◌∙◌, ap, subst, sym}
use Rattle.hg_life.specs.Spelling.{spelling}
use Rattle.hg_model.specs.Graph.{IsGraph}
use Rattle.hg_node.specs.ChronicleView.{ChronicleView, node_view}
use Rattle.hg_node.proofs.PutLaws.{IsPut, event_ends, event_refused, event_taken}
use Rattle.hg_node.proofs.node.Node.put_event.Given as given
use Rattle.hg_node.proofs.node.Node.put_event.Goals as goal

pub take_shared-requires-clause-graph : goal.take_shared-requires-clause-graph
take_shared-requires-clause-graph g c =
    subst (λ (r : ChronicleView). IsGraph r.graph.members (r.graph.rows ++ c.args.event.now.value ∷ [])) (sym c.deref_mut.ensures.value)
    (event_taken g.V.Verifier.accepts c.self.inside.keys c.self.inside.chronicle.value c.self.view_is c.self.invariant c.deref.ensures c.is_event.ensures c.requires.fits c.requires.signed
    c.deref-3.result.now c.deref-3.ensures
    c.bytes.result.now (c.bytes.ensures ∙ ap spelling c.deref-2.ensures) c.are_bytes.ensures c.in-Ok.ensures.answer).graph

-- all that the taking left
ends : (g : given.Over) (c : goal.After-self-1 g) → IsPut g.V.Verifier.accepts (node_view c.self.inside.keys c.self.inside.chronicle.value)
    (node_view c.self.inside.keys c.take_shared.new.chronicle) c.take_shared.new.chronicle (spelling c.args.event.now.value) c.take_shared.result
ends g c =
    event_ends g.V.Verifier.accepts c.self.inside.keys c.self.inside.chronicle.value c.self.view_is c.self.invariant c.deref.ensures c.is_event.ensures c.requires.fits c.requires.signed
    c.deref-3.result.now c.deref-3.ensures
    c.bytes.result.now (c.bytes.ensures ∙ ap spelling c.deref-2.ensures) c.are_bytes.ensures c.in-Ok.ensures.answer
    c.take_shared.result c.take_shared.new.chronicle c.deref_mut.result.now c.deref_mut.ensures.value c.take_shared.ensures.answer c.take_shared.ensures.ok c.take_shared.ensures.err

pub invariant_of-self : goal.invariant_of-self
invariant_of-self g c = (ends g c).recorded

pub returns-in-Ok-clause-answer : goal.returns-in-Ok-clause-answer
returns-in-Ok-clause-answer g c = rw (← c.self.view_is) (ends g c).answer

pub returns-in-Ok-clause-ok : goal.returns-in-Ok-clause-ok
returns-in-Ok-clause-ok g c = rw (← c.self.view_is) (ends g c).ok

pub returns-in-Ok-clause-free : goal.returns-in-Ok-clause-free
returns-in-Ok-clause-free g c = rw (← c.self.view_is) (ends g c).free

pub returns-in-Err-clause-answer : goal.returns-in-Err-clause-answer
returns-in-Err-clause-answer g c =
    rw (← c.self.view_is)
    (event_refused g.V.Verifier.accepts c.self.inside.keys c.self.inside.chronicle.value c.self.view_is c.self.invariant c.deref.ensures c.is_event.ensures c.requires.fits c.requires.signed
    c.deref-3.result.now c.deref-3.ensures
    c.in-Err.answer c.in-Err.ensures.answer).0

pub returns-in-Err-clause-ok : goal.returns-in-Err-clause-ok
returns-in-Err-clause-ok g c =
    rw (← c.self.view_is)
    (event_refused g.V.Verifier.accepts c.self.inside.keys c.self.inside.chronicle.value c.self.view_is c.self.invariant c.deref.ensures c.is_event.ensures c.requires.fits c.requires.signed
    c.deref-3.result.now c.deref-3.ensures
    c.in-Err.answer c.in-Err.ensures.answer).1
