use Rattle.std.proofs.Common.{arith}
use Rattle.hg_node.proofs.NextLaws.{among_all, among_none, among_less, among_here}
use Rattle.hg_node.proofs.next.last_other.Goals as goal

pub rows-init : goal.rows-init
rows-init c = among_all c.args.own c.args.graph.now.graph.rows c.len-x.result c.len-x.ensures.value

pub row-row-requires : goal.row-row-requires
row-row-requires c = omega (arith, c.rows.invariant.inside, c.rows-test.true)

pub rows-preserved : goal.rows-preserved
rows-preserved c = among_less c.args.own c.args.graph.now.graph.rows c.rows.x c.row-row.result.now c.rows-test.true c.row-row.ensures c.if-row-own.false c.rows.invariant

pub returns-then-row-own : goal.returns-then-row-own
returns-then-row-own c = among_here c.args.own c.args.graph.now.graph.rows c.rows.x c.row-row.result.now c.rows-test.true c.row-row.ensures c.if-row-own.true c.rows.invariant

pub returns : goal.returns
returns c = among_none c.args.own c.args.graph.now.graph.rows c.rows.x c.rows-test.false c.rows.invariant
