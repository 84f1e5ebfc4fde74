use Rattle.hg_play.proofs.AlikeLaws.{gossip_alike, stay_alike, step_alike}
use Rattle.hg_play.proofs.laws.steps_need_rows_alone.Goals as goal

pub returns-clause-nodes : goal.returns-clause-nodes
returns-clause-nodes c = stay_alike

pub returns-clause-steps : goal.returns-clause-steps
returns-clause-steps c = step_alike

pub returns-clause-gossip : goal.returns-clause-gossip
returns-clause-gossip c = gossip_alike
