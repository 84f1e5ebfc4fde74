use Rattle.hg_prefix.proofs.StandingLaws.{parts_alike}
use Rattle.hg_prefix.proofs.laws.parts_are_alike.Goals as goal

pub returns : goal.returns
returns c = parts_alike
