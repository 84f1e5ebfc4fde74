use Rattle.hg_board.proofs.ChangeLaws.{makes_add_one, other_makes_add_none}
use Rattle.hg_board.proofs.laws.shared_makes_add_one.Goals as goal

pub returns-clause-one : goal.returns-clause-one
returns-clause-one g c = makes_add_one g.row.V.Denot

pub returns-clause-none : goal.returns-clause-none
returns-clause-none g c = other_makes_add_none g.row.V.Denot
