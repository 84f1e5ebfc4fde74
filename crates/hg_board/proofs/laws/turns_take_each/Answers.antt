use Rattle.hg_board.proofs.OneTurnLaws as turn
use Rattle.hg_board.proofs.laws.turns_take_each.Goals as goal

pub returns : goal.returns
returns g c = turn.turns_take_each g.row.V.Denot
