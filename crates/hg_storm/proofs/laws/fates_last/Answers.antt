use Rattle.hg_storm.proofs.EndLaws.{fates_last}
use Rattle.hg_storm.proofs.laws.fates_last.Goals as goal

pub returns : goal.returns
returns g c = fates_last g.row.V.Denot
