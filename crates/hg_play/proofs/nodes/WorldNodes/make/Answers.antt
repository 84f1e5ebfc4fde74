use Rattle.std.proofs.Common.{◌∷◌, []}
use Rattle.hg_world.specs.declared.step.Step.TheVariants.{Make}
use Rattle.hg_play.proofs.NodesLaws.{kept_or_same, told_call}
use Rattle.hg_play.proofs.nodes.WorldNodes.make.Goals as goal

pub returns-clause-kept : goal.returns-clause-kept
returns-clause-kept c = kept_or_same c.make.result c.args.self.now c.make.new.self (Make c.args.member c.args.others.now c.args.time c.args.payload.now ∷ []) c.make.ensures.ok c.make.ensures.err

pub returns-clause-told : goal.returns-clause-told
returns-clause-told c = told_call c.make.result c.args.self.now c.make.new.self (λ w. Make c.args.member c.args.others.now c.args.time c.args.payload.now ∷ []) _ c.make.ensures.answer c.make.ensures.ok
