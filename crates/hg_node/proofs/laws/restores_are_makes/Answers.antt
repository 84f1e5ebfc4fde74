use Rattle.hg_node.proofs.NextOwnLaws.{restores_are_makes}
use Rattle.hg_node.proofs.ReplayLaws.{restores_add_one, restores_leave_a_node}
use Rattle.hg_node.proofs.laws.restores_are_makes.Goals as goal

pub returns-clause-rows : goal.returns-clause-rows
returns-clause-rows g c = restores_are_makes

pub returns-clause-one : goal.returns-clause-one
returns-clause-one g c = restores_add_one _

pub returns-clause-node : goal.returns-clause-node
returns-clause-node g c = restores_leave_a_node _
