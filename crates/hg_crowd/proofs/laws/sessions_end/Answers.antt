use Rattle.hg_crowd.proofs.EndLaws.{sessions_end, sessions_mark}
use Rattle.hg_crowd.proofs.laws.sessions_end.Goals as goal

pub returns-clause-rows : goal.returns-clause-rows
returns-clause-rows g c = sessions_end g.row.V.Denot

pub returns-clause-marks : goal.returns-clause-marks
returns-clause-marks g c = sessions_mark g.row.V.Denot
