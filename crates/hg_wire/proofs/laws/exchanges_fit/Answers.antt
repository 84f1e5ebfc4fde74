use Rattle.hg_wire.proofs.ExchangeLaws.{answers_fit, asks_fit}
use Rattle.hg_wire.proofs.laws.exchanges_fit.Goals as goal

pub returns-clause-asks : goal.returns-clause-asks
returns-clause-asks g c = asks_fit g.row.K.Denot

pub returns-clause-answers : goal.returns-clause-answers
returns-clause-answers g c = answers_fit g.row.L.Denot
