use Rattle.hg_prefix.proofs.CoreLaws.{stand_in_one, chain_orders, own_chain_orders}
use Rattle.hg_prefix.proofs.laws.orders_of_chains.Goals as goal

pub returns-clause-one_graph : goal.returns-clause-one_graph
returns-clause-one_graph c = stand_in_one

pub returns-clause-one : goal.returns-clause-one
returns-clause-one c = chain_orders

pub returns-clause-own : goal.returns-clause-own
returns-clause-own c = own_chain_orders
