use Rattle.hg_history.proofs.CallLaws.{puts_add_one, other_puts_add_none, puts_leave_a_node}
use Rattle.hg_history.proofs.laws.puts_add_one.Goals as goal

pub returns-clause-one : goal.returns-clause-one
returns-clause-one g c = puts_add_one _

pub returns-clause-none : goal.returns-clause-none
returns-clause-none g c = other_puts_add_none _

pub returns-clause-node : goal.returns-clause-node
returns-clause-node g c = puts_leave_a_node _
