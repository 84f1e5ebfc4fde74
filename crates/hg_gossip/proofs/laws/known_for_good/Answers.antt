use Rattle.hg_gossip.proofs.KnownLaws.{known_for_good}
use Rattle.hg_gossip.proofs.laws.known_for_good.Goals as goal

pub returns : goal.returns
returns c = known_for_good
