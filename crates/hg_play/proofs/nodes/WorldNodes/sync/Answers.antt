use Rattle.hg_world.specs.Syncs.{sync_steps}
use Rattle.hg_play.proofs.NodesLaws.{kept_some, told_by}
use Rattle.hg_play.proofs.nodes.WorldNodes.sync.Goals as goal

pub returns-clause-kept : goal.returns-clause-kept
returns-clause-kept c = kept_some c.sync.result c.args.self.now c.sync.new.self (sync_steps c.args.self.now c.args.taker c.args.peer c.args.time c.args.payload.now) _ (λ report is. is.1) _ c.sync.ensures.ok c.sync.ensures.err

pub returns-clause-told : goal.returns-clause-told
returns-clause-told c = told_by c.sync.result c.args.self.now c.sync.new.self (λ w. sync_steps w c.args.taker c.args.peer c.args.time c.args.payload.now) _ _ (λ report is. is) c.sync.ensures.ok
