use Rattle.hg_history.proofs.ChangeLaws.{rows_came, changes_left, verdicts_of_bytes}
use Rattle.hg_history.proofs.laws.rows_came_by_changes.Goals as goal

pub returns-clause-came : goal.returns-clause-came
returns-clause-came c = rows_came

pub returns-clause-left : goal.returns-clause-left
returns-clause-left c = changes_left

pub returns-clause-bytes : goal.returns-clause-bytes
returns-clause-bytes c = verdicts_of_bytes
