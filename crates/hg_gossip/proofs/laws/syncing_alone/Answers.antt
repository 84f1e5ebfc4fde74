use Rattle.hg_gossip.proofs.AloneLaws.{syncs_alone}
use Rattle.hg_gossip.proofs.laws.syncing_alone.Goals as goal

pub returns : goal.returns
returns g c = syncs_alone g.row.K.Denot g.row.L.Denot
