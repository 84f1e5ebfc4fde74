use Rattle.hg_runs.proofs.SafetyLaws.{runs_safe, honest_agree}
use Rattle.hg_runs.proofs.laws.runs_are_safe.Goals as goal

pub returns-clause-safe : goal.returns-clause-safe
returns-clause-safe c = runs_safe

pub returns-clause-honest : goal.returns-clause-honest
returns-clause-honest c = honest_agree
