use Rattle.std.proofs.Common.{◌∷◌, []}
use Rattle.hg_world.specs.declared.step.Step.TheVariants.{Deliver}
use Rattle.hg_play.proofs.NodesLaws.{kept_or_same, told_call}
use Rattle.hg_play.proofs.nodes.WorldNodes.put.Goals as goal

pub returns-clause-kept : goal.returns-clause-kept
returns-clause-kept c = kept_or_same c.put.result c.args.self.now c.put.new.self (Deliver c.args.member c.args.bytes.now ∷ []) c.put.ensures.ok c.put.ensures.err

pub returns-clause-told : goal.returns-clause-told
returns-clause-told c = told_call c.put.result c.args.self.now c.put.new.self (λ w. Deliver c.args.member c.args.bytes.now ∷ []) _ c.put.ensures.answer c.put.ensures.ok
