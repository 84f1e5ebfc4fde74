use Rattle.hg_gossip.proofs.RefusalLaws.{pulls_hold}
use Rattle.hg_gossip.proofs.laws.pulling_holds.Goals as goal

pub returns : goal.returns
returns g c = pulls_hold g.row.K.Denot g.row.L.Denot
