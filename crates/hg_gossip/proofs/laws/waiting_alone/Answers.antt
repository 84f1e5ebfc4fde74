use Rattle.hg_gossip.proofs.AloneLaws.{waits_alone}
use Rattle.hg_gossip.proofs.laws.waiting_alone.Goals as goal

pub returns : goal.returns
returns g c = waits_alone g.row.K.Denot
