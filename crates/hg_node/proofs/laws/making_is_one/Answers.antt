use Rattle.hg_node.proofs.OneLaws.{making_is_one}
use Rattle.hg_node.proofs.laws.making_is_one.Goals as goal

pub returns : goal.returns
returns g c = making_is_one g.row.K.Denot
