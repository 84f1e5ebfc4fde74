use Rattle.std.proofs.Common.{Err, subst}
use Rattle.hg_model.specs.declared.stop.Stop.{Stop}
use Rattle.hg_model.specs.Prefix.{Graph}
use Rattle.hg_proof.specs.Answers.{Leaves}
use Rattle.hg_proof.specs.Judging.{rows_in}
use Rattle.hg_proof.specs.Want.{IfMemory, IsBegun}
use Rattle.hg_proof.specs.declared.why.Why.{Why}
use Rattle.hg_proof.proofs.FillLaws.{passed_front}
use Rattle.hg_proof.proofs.checking.answered.Goals as goal

pub returns-in-Ok-clause-front : goal.returns-in-Ok-clause-front
returns-in-Ok-clause-front g c =
    passed_front (g.V.Verifier.accepts c.args.keys.now) c.args.graph.now.graph (rows_in c.args.bytes.now) c.judge.new.graph.graph c.in-Ok.ensures.left

pub returns-in-Err-Fault-clause-front : goal.returns-in-Err-Fault-clause-front
returns-in-Err-Fault-clause-front g c =
    let accepts = g.V.Verifier.accepts c.args.keys.now in
    let old : Graph = c.args.graph.now.graph in
    let new : Graph = c.judge.new.graph.graph in
    let rows = rows_in c.args.bytes.now in
    passed_front accepts old rows new (subst (λ (stop : Stop Why). Leaves {A = Unit {0}} accepts old rows (Err stop) new) c.in-Err-Fault.field-0-is c.in-Err-Fault.ensures.left)

pub returns-in-Err-Memory-clause-free : goal.returns-in-Err-Memory-clause-free
returns-in-Err-Memory-clause-free g c =
    subst (λ (stop : Stop Why). IfMemory stop (IsBegun c.args.bytes.now)) c.in-Err-Memory.field-0-is c.in-Err-Memory.ensures.free
