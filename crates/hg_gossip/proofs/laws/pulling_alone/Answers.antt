use Rattle.hg_gossip.proofs.AloneLaws.{pulls_alone}
use Rattle.hg_gossip.proofs.laws.pulling_alone.Goals as goal

pub returns : goal.returns
returns g c = pulls_alone g.row.K.Denot g.row.L.Denot
