use Rattle.hg_history.proofs.CallLaws.{makes_add_one, other_makes_add_none}
use Rattle.hg_history.proofs.MakeLaws.{makes_leave_a_node}
use Rattle.hg_history.proofs.laws.makes_add_one.Goals as goal

pub returns-clause-one : goal.returns-clause-one
returns-clause-one g c = makes_add_one _

pub returns-clause-none : goal.returns-clause-none
returns-clause-none g c = other_makes_add_none _

pub returns-clause-node : goal.returns-clause-node
returns-clause-node g c = makes_leave_a_node _
