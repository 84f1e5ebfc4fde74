use Rattle.std.proofs.Common.{◌≡◌, ◌∙◌, None, subst}
use Rattle.hg_model.specs.declared.row.Row.{Row}
use Rattle.hg_life.specs.Spelling.{Spells, spelling}
use Rattle.hg_arrival.specs.Arrival.{all_rules}
use Rattle.hg_proof.proofs.ComingLaws.{graph_with_next}
use Rattle.hg_proof.proofs.filling.add_next.Goals as goal

pub push_shared-requires-clause-graph : goal.push_shared-requires-clause-graph
push_shared-requires-clause-graph g c =
    let accepts = g.V.Verifier.accepts c.args.keys.now in
    let event = c.args.event.now.value in
    let spells : Spells (spelling event) event = subst (λ (r : Row). Spells (spelling r) r) c.deref.ensures c.row.ensures.spelled in
    let silent : None ≡ all_rules accepts None c.args.graph.now.graph event = subst (λ (r : Row). None ≡ all_rules accepts None c.args.graph.now.graph r) (c.view.ensures ∙ c.deref-2.ensures) c.in-Ok.ensures.answer in
    graph_with_next accepts c.args.graph.now.graph event c.len-place.ensures.lawful.graph spells.sized silent
