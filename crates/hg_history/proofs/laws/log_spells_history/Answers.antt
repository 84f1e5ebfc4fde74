use Rattle.hg_history.proofs.LogLaws.{log_spells_history}
use Rattle.hg_history.proofs.laws.log_spells_history.Goals as goal

pub returns : goal.returns
returns c = log_spells_history
