use Rattle.hg_proof.proofs.FillLaws.{IsFilled}
use Rattle.hg_proof.proofs.filling.fill.Given as goal

abbrev pub invariant-loop-event : goal.invariant-loop-event
invariant-loop-event g l = IsFilled (g.V.Verifier.accepts l.keys) l.initial.graph.graph l.events l.event-index l.graph.graph
