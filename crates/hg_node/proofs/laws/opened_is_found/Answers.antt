use Rattle.hg_node.proofs.OpenLaws.{opened_is_found}
use Rattle.hg_node.proofs.laws.opened_is_found.Goals as goal

pub returns : goal.returns
returns g c = opened_is_found g.row.K.Denot
