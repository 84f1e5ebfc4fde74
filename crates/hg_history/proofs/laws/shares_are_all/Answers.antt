use Rattle.hg_history.proofs.ShareLaws.{shares_are_all}
use Rattle.hg_history.proofs.laws.shares_are_all.Goals as goal

pub returns : goal.returns
returns c = shares_are_all
