use Rattle.std.proofs.Common.{ap}
use Rattle.hg_life.specs.History.{State}
use Rattle.hg_life.specs.History.Change.{Marked}
use Rattle.hg_history.proofs.StateLaws.{rows_grow, links_grow, marks_stay, replay-push}
use Rattle.hg_history.proofs.SoundLaws.{closed_later}
use Rattle.hg_history.proofs.laws.history_grows.Goals as goal

pub returns-clause-rows : goal.returns-clause-rows
returns-clause-rows c = rows_grow

pub returns-clause-links : goal.returns-clause-links
returns-clause-links c = links_grow

pub returns-clause-marks : goal.returns-clause-marks
returns-clause-marks c = marks_stay

pub returns-clause-closed : goal.returns-clause-closed
returns-clause-closed c = closed_later

pub returns-clause-marking : goal.returns-clause-marking
returns-clause-marking c = λ n period h len share. (ap (λ (s : State). s.rows) (replay-push n period h (Marked len share)), ap (λ (s : State). s.links) (replay-push n period h (Marked len share)))
