use Rattle.std.proofs.Common.{refl}
use Rattle.hg_model.proofs.PrefixLaws.{witness_read}
use Rattle.hg_proof.proofs.least.last_decider.Goals as goal

pub elect-requires-clause-place : goal.elect-requires-clause-place
elect-requires-clause-place c =
    (witness_read c.args.graph.now.graph _ _ _ c.loop-x.x-index refl c.witnesses-x-items.ensures c.loop-x-test.true).place

pub elect-requires-clause-witness : goal.elect-requires-clause-witness
elect-requires-clause-witness c =
    (witness_read c.args.graph.now.graph _ _ _ c.loop-x.x-index refl c.witnesses-x-items.ensures c.loop-x-test.true).witness
