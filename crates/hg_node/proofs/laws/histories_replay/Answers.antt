use Rattle.hg_node.proofs.ReplayLaws.{changes_replay, histories_replay, replays_are_nodes}
use Rattle.hg_node.proofs.laws.histories_replay.Goals as goal

pub returns-clause-change : goal.returns-clause-change
returns-clause-change g c = changes_replay _

pub returns-clause-history : goal.returns-clause-history
returns-clause-history g c = histories_replay _

pub returns-clause-node : goal.returns-clause-node
returns-clause-node g c = replays_are_nodes _
