use Rattle.hg_prefix.proofs.OrderLaws.{order_prefix, one_order}
use Rattle.hg_prefix.proofs.OwnLaws.{own_orders}
use Rattle.hg_prefix.proofs.laws.orders_are_prefixes.Goals as goal

pub returns-clause-fewer : goal.returns-clause-fewer
returns-clause-fewer c = λ n period size U G H f h u three g k sizes_G sizes_H fewer. order_prefix n period U u three G H f h g k fewer size sizes_G sizes_H

pub returns-clause-one : goal.returns-clause-one
returns-clause-one c = λ n period size U G H f h u three g k sizes_G sizes_H. one_order n period size U u three G H f h g k sizes_G sizes_H

pub returns-clause-own : goal.returns-clause-own
returns-clause-own c = own_orders
