use Rattle.std.proofs.Common.{◌≡◌, ◌∙◌, List, [], ◌∷◌, ◌++◌, ℕ, Option, length, ap, subst, sym, arith}
use Rattle.hg_life.specs.declared.entry.Entry.TheVariants as entry
use Rattle.hg_model.specs.Graph.{IsGraph}
use Rattle.hg_model.specs.Prefix.{Graph}
use Rattle.hg_life.specs.Verdict.{last_name, parents_on}
use Rattle.hg_node.specs.ChronicleView.{ChronicleView, chronicle_with, node_view, IsRecorded}
use Rattle.hg_node.specs.Draft.{draft_fault, row_fault}
use Rattle.hg_node.proofs.MakeLaws.{MakesRow, row_of_draft, signed_of_draft, draft_silent, draft_refused, row_refused, row_made}
use Rattle.hg_node.proofs.node.Node.make.Given as given
use Rattle.hg_node.proofs.node.Node.make.Goals as goal

pub returns-in-Err-clause-ok : goal.returns-in-Err-clause-ok
returns-in-Err-clause-ok g c =
    rw (← c.self.view_is)
    (draft_refused g.V.Verifier.accepts c.self.inside.keys c.self.inside.chronicle.value c.args.others.now c.args.time c.args.payload.now c.self.invariant c.in-Err.fault (c.in-Err.ensures.fault ∙ ap (λ (r : ChronicleView). draft_fault r c.args.others.now c.args.payload.now) c.deref.ensures))

pub returns-in_err-event-clause-free : goal.returns-in_err-event-clause-free
returns-in_err-event-clause-free g c =
    rw (← c.self.view_is)
    (draft_silent g.V.Verifier.accepts c.self.inside.keys c.self.inside.chronicle.value c.args.others.now c.args.time c.args.payload.now c.self.invariant
    c.from_residual.result (c.in-Ok.ensures.fault ∙ ap (λ (r : ChronicleView). draft_fault r c.args.others.now c.args.payload.now) c.deref.ensures))

pub add-requires-clause-graph : goal.add-requires-clause-graph
add-requires-clause-graph g c =
    subst (λ (r : ChronicleView). IsGraph r.graph.members (r.graph.rows ++ c.in_ok-event.event.value ∷ [])) (sym c.deref_mut.ensures.value)
    (row_made g.V.Verifier.accepts c.self.inside.keys c.self.inside.chronicle.value c.args.others.now c.args.time c.args.payload.now c.self.invariant
    c.in_ok-event.event.value.sig c.in_ok-event.ensures.sized c.in_ok-event.event.value (c.in-Ok.ensures.fault ∙ ap (λ (r : ChronicleView). draft_fault r c.args.others.now c.args.payload.now) c.deref.ensures) (signed_of_draft (g.V.Verifier.accepts c.self.inside.keys) c.self.inside.chronicle.value c.args.others.now c.args.time c.args.payload.now c.own-own.result (parents_on c.in-Ok.draft.last c.args.others.now) c.in_ok-event.event.value.sig (c.own-own.ensures ∙ ap (λ (r : ChronicleView). r.own) c.deref-2.ensures) (ap (λ (last : Option (List ℕ)). parents_on last c.args.others.now) (c.in-Ok.ensures.last ∙ ap (λ (r : ChronicleView). last_name r.own r.graph.rows) c.deref.ensures)) c.in_ok-event.ensures.signed) (row_of_draft c.self.inside.chronicle.value c.args.others.now c.args.time c.args.payload.now c.own-own.result (parents_on c.in-Ok.draft.last c.args.others.now) c.in_ok-event.event.value.sig c.in_ok-event.event.value (c.own-own.ensures ∙ ap (λ (r : ChronicleView). r.own) c.deref-2.ensures) (ap (λ (last : Option (List ℕ)). parents_on last c.args.others.now) (c.in-Ok.ensures.last ∙ ap (λ (r : ChronicleView). last_name r.own r.graph.rows) c.deref.ensures)) c.in_ok-event.ensures.row) c.requires (omega (arith, c.ranges.time.fits)) (c.in-Ok-row_rule.ensures ∙ ap (λ (r : ChronicleView). row_fault r c.in_ok-event.event.value) c.deref-3.ensures)).graph

pub returns-in_err-add-in-Ok-row_rule-clause-free : goal.returns-in_err-add-in-Ok-row_rule-clause-free
returns-in_err-add-in-Ok-row_rule-clause-free g c =
    rw (← c.self.view_is)
    (draft_silent g.V.Verifier.accepts c.self.inside.keys c.self.inside.chronicle.value c.args.others.now c.args.time c.args.payload.now c.self.invariant
    c.from_residual-in_err-add-in-Ok-row_rule.result (c.in-Ok.ensures.fault ∙ ap (λ (r : ChronicleView). draft_fault r c.args.others.now c.args.payload.now) c.deref.ensures))

pub returns-in-Err-row_rule-clause-ok : goal.returns-in-Err-row_rule-clause-ok
returns-in-Err-row_rule-clause-ok g c =
    rw (← c.self.view_is)
    (row_refused g.V.Verifier.accepts c.self.inside.keys c.self.inside.chronicle.value c.args.others.now c.args.time c.args.payload.now c.self.invariant
    c.in_ok-event.event.value.sig c.in_ok-event.ensures.sized c.in_ok-event.event.value (c.in-Ok.ensures.fault ∙ ap (λ (r : ChronicleView). draft_fault r c.args.others.now c.args.payload.now) c.deref.ensures) (signed_of_draft (g.V.Verifier.accepts c.self.inside.keys) c.self.inside.chronicle.value c.args.others.now c.args.time c.args.payload.now c.own-own.result (parents_on c.in-Ok.draft.last c.args.others.now) c.in_ok-event.event.value.sig (c.own-own.ensures ∙ ap (λ (r : ChronicleView). r.own) c.deref-2.ensures) (ap (λ (last : Option (List ℕ)). parents_on last c.args.others.now) (c.in-Ok.ensures.last ∙ ap (λ (r : ChronicleView). last_name r.own r.graph.rows) c.deref.ensures)) c.in_ok-event.ensures.signed) (row_of_draft c.self.inside.chronicle.value c.args.others.now c.args.time c.args.payload.now c.own-own.result (parents_on c.in-Ok.draft.last c.args.others.now) c.in_ok-event.event.value.sig c.in_ok-event.event.value (c.own-own.ensures ∙ ap (λ (r : ChronicleView). r.own) c.deref-2.ensures) (ap (λ (last : Option (List ℕ)). parents_on last c.args.others.now) (c.in-Ok.ensures.last ∙ ap (λ (r : ChronicleView). last_name r.own r.graph.rows) c.deref.ensures)) c.in_ok-event.ensures.row) c.in-Err-row_rule.fault (c.in-Err-row_rule.ensures ∙ ap (λ (r : ChronicleView). row_fault r c.in_ok-event.event.value) c.deref-3.ensures))

-- the row is made
makes : (g : given.Over) (c : goal.In_ok-add-in-Ok-row_rule g) → MakesRow g.V.Verifier.accepts (node_view c.self.inside.keys c.self.inside.chronicle.value)
    (node_view c.self.inside.keys (chronicle_with c.self.inside.chronicle.value c.in_ok-event.event.value (entry.Made (length c.self.inside.chronicle.value.graph.rows))))
    c.self.inside.chronicle.value c.in_ok-event.event.value c.args.others.now c.args.time c.args.payload.now
makes g c =
    row_made g.V.Verifier.accepts c.self.inside.keys c.self.inside.chronicle.value c.args.others.now c.args.time c.args.payload.now c.self.invariant
    c.in_ok-event.event.value.sig c.in_ok-event.ensures.sized c.in_ok-event.event.value (c.in-Ok.ensures.fault ∙ ap (λ (r : ChronicleView). draft_fault r c.args.others.now c.args.payload.now) c.deref.ensures) (signed_of_draft (g.V.Verifier.accepts c.self.inside.keys) c.self.inside.chronicle.value c.args.others.now c.args.time c.args.payload.now c.own-own.result (parents_on c.in-Ok.draft.last c.args.others.now) c.in_ok-event.event.value.sig (c.own-own.ensures ∙ ap (λ (r : ChronicleView). r.own) c.deref-2.ensures) (ap (λ (last : Option (List ℕ)). parents_on last c.args.others.now) (c.in-Ok.ensures.last ∙ ap (λ (r : ChronicleView). last_name r.own r.graph.rows) c.deref.ensures)) c.in_ok-event.ensures.signed) (row_of_draft c.self.inside.chronicle.value c.args.others.now c.args.time c.args.payload.now c.own-own.result (parents_on c.in-Ok.draft.last c.args.others.now) c.in_ok-event.event.value.sig c.in_ok-event.event.value (c.own-own.ensures ∙ ap (λ (r : ChronicleView). r.own) c.deref-2.ensures) (ap (λ (last : Option (List ℕ)). parents_on last c.args.others.now) (c.in-Ok.ensures.last ∙ ap (λ (r : ChronicleView). last_name r.own r.graph.rows) c.deref.ensures)) c.in_ok-event.ensures.row) c.requires (omega (arith, c.ranges.time.fits)) (c.in-Ok-row_rule.ensures ∙ ap (λ (r : ChronicleView). row_fault r c.in_ok-event.event.value) c.deref-3.ensures)

place_is : (g : given.Over) (c : goal.In_ok-add-in-Ok-row_rule g) → c.len-place.result ≡ length c.self.inside.chronicle.value.graph.rows
place_is g c = c.len-place.ensures.value ∙ ap (λ (h : Graph). length h.rows) (c.graph.ensures ∙ ap (λ (r : ChronicleView). r.graph) c.deref-in-Ok-row_rule.ensures)

recorded_is : (g : given.Over) (c : goal.In_ok-add-in-Ok-row_rule g) → c.add.new.self ≡ chronicle_with c.self.inside.chronicle.value c.in_ok-event.event.value (entry.Made (length c.self.inside.chronicle.value.graph.rows))
recorded_is g c =
    c.in_ok-add-in-Ok-row_rule.ensures.ok
    ∙ (ap (λ (r : ChronicleView). chronicle_with r c.in_ok-event.event.value (entry.Made c.len-place.result)) c.deref_mut.ensures.value
    ∙ ap (λ (k : ℕ). chronicle_with c.self.inside.chronicle.value c.in_ok-event.event.value (entry.Made k)) (place_is g c))

pub invariant_of-self-in-Ok-row_rule : goal.invariant_of-self-in-Ok-row_rule
invariant_of-self-in-Ok-row_rule g c =
    subst (λ (r : ChronicleView). IsRecorded g.V.Verifier.accepts (node_view c.self.inside.keys r) r) (sym (recorded_is g c)) (makes g c).recorded

pub returns-in_ok-add-in-Ok-row_rule-clause-ok : goal.returns-in_ok-add-in-Ok-row_rule-clause-ok
returns-in_ok-add-in-Ok-row_rule-clause-ok g c = rw (← c.self.view_is, place_is g c, recorded_is g c) (makes g c).making
