use Rattle.hg_runs.proofs.HonestLaws.{honesty_tested}
use Rattle.hg_runs.proofs.laws.honesty_is_tested.Goals as goal

pub returns : goal.returns
returns c = honesty_tested
