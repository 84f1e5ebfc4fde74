use Rattle.hg_history.proofs.CallLaws.{publishes_leave_a_node}
use Rattle.hg_history.proofs.NodeLaws.{settles_all}
use Rattle.hg_history.proofs.laws.settles_all.Goals as goal

pub returns-clause-node : goal.returns-clause-node
returns-clause-node g c = publishes_leave_a_node _

pub returns-clause-all : goal.returns-clause-all
returns-clause-all g c = settles_all _
