use Rattle.hg_history.proofs.StayLaws.{by_rounds, rounds_stay, rows_leave_the_order}
use Rattle.hg_history.proofs.laws.order_by_rounds.Goals as goal

pub returns-clause-rounds : goal.returns-clause-rounds
returns-clause-rounds c = by_rounds

pub returns-clause-stay : goal.returns-clause-stay
returns-clause-stay c = rounds_stay

pub returns-clause-rows : goal.returns-clause-rows
returns-clause-rows c = rows_leave_the_order
