use Rattle.hg_gossip.proofs.RowLaws.{unnamed_lacks}
use Rattle.hg_gossip.proofs.laws.missing_is_lacking.Goals as goal

pub returns : goal.returns
returns c = unnamed_lacks
