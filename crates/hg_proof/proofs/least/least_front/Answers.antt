use Rattle.std.proofs.Common.{arith}
use Rattle.hg_life.specs.Terms.{row_limit}
use Rattle.hg_proof.proofs.FrontLaws.{between_end, between_start, few_places}
use Rattle.hg_proof.proofs.least.least_front.Goals as goal

pub least_bound-requires : goal.least_bound-requires
least_bound-requires c = few_places c.args.graph.now.graph c.args.order.now row_limit c.requires c.len-rows.ensures.lawful.few

pub narrowed-requires-clause-between : goal.narrowed-requires-clause-between
narrowed-requires-clause-between c = between_start c.args.graph.now.graph c.args.order.now c.least_bound.result c.len-rows.result c.requires c.least_bound.ensures c.len-rows.ensures.value

pub returns : goal.returns
returns c = between_end c.args.graph.now.graph c.halves.bounds.0 c.halves.bounds.1 (omega arith) c.halves.invariant
