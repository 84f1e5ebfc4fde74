use Rattle.hg_board.proofs.ChangeLaws.{other_puts_add_none, puts_add_one}
use Rattle.hg_board.proofs.laws.shared_puts_add_one.Goals as goal

pub returns-clause-one : goal.returns-clause-one
returns-clause-one g c = puts_add_one g.row.V.Denot

pub returns-clause-none : goal.returns-clause-none
returns-clause-none g c = other_puts_add_none g.row.V.Denot
