use Rattle.hg_history.proofs.KeptLaws.{order_grows, named_order_grows, kept_of_graph}
use Rattle.hg_history.proofs.laws.order_grows.Goals as goal

pub returns-clause-places : goal.returns-clause-places
returns-clause-places c = order_grows

pub returns-clause-names : goal.returns-clause-names
returns-clause-names c = named_order_grows

pub returns-clause-graph : goal.returns-clause-graph
returns-clause-graph c = kept_of_graph
