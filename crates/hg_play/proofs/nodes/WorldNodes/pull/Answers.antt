use Rattle.hg_world.specs.Syncs.{pull_steps}
use Rattle.hg_play.proofs.NodesLaws.{kept_some, told_by}
use Rattle.hg_play.proofs.nodes.WorldNodes.pull.Goals as goal

pub returns-clause-kept : goal.returns-clause-kept
returns-clause-kept c = kept_some c.pull.result c.args.self.now c.pull.new.self (pull_steps c.args.self.now c.args.taker c.args.peer) _ (λ counts is. is.after) _ c.pull.ensures.ok c.pull.ensures.err

pub returns-clause-told : goal.returns-clause-told
returns-clause-told c = told_by c.pull.result c.args.self.now c.pull.new.self (λ w. pull_steps w c.args.taker c.args.peer) _ _ (λ counts is. (is.counts, is.after)) c.pull.ensures.ok
