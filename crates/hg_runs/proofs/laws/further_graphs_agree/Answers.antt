use Rattle.hg_runs.proofs.FurtherLaws.{further_honesty_tested, further_safe, further_union, honest_further_agrees, moment_further, two_further_agree}
use Rattle.hg_runs.proofs.laws.further_graphs_agree.Goals as goal

pub returns-clause-safe : goal.returns-clause-safe
returns-clause-safe c = further_safe

pub returns-clause-honest : goal.returns-clause-honest
returns-clause-honest c = honest_further_agrees

pub returns-clause-union : goal.returns-clause-union
returns-clause-union c = further_union

pub returns-clause-two : goal.returns-clause-two
returns-clause-two c = two_further_agree

pub returns-clause-tested : goal.returns-clause-tested
returns-clause-tested c = further_honesty_tested

pub returns-clause-moments : goal.returns-clause-moments
returns-clause-moments c = moment_further
