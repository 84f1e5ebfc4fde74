use Rattle.hg_storm.proofs.KeepLaws.{making_keeps, waiting_keeps}
use Rattle.hg_storm.proofs.laws.calls_keep_fates.Goals as goal

pub returns-clause-waits : goal.returns-clause-waits
returns-clause-waits g c = waiting_keeps g.row.V.Denot

pub returns-clause-makes : goal.returns-clause-makes
returns-clause-makes g c = making_keeps g.row.V.Denot
