use Rattle.hg_gossip.proofs.AloneLaws.{made_alone}
use Rattle.hg_gossip.proofs.laws.making_alone.Goals as goal

pub returns : goal.returns
returns g c = λ accepts. made_alone accepts
