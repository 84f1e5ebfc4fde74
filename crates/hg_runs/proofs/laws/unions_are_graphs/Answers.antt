use Rattle.hg_runs.proofs.SafetyLaws.{unions_graph, honest_no_fork}
use Rattle.hg_runs.proofs.laws.unions_are_graphs.Goals as goal

pub returns-clause-graph : goal.returns-clause-graph
returns-clause-graph c = unions_graph

pub returns-clause-honest : goal.returns-clause-honest
returns-clause-honest c = honest_no_fork
