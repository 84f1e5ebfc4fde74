use Rattle.hg_wire.proofs.ExchangeLaws.{asks_name_held, exchanges_hold}
use Rattle.hg_wire.proofs.laws.exchanges_hold.Goals as goal

pub returns-clause-names : goal.returns-clause-names
returns-clause-names g c = asks_name_held g.row.K.Denot

pub returns-clause-rows : goal.returns-clause-rows
returns-clause-rows g c = exchanges_hold g.row.K.Denot g.row.L.Denot
