use Rattle.hg_io.proofs.PrintLaws.{failed, more_put, stopped_within}
use Rattle.hg_report.proofs.Steps.{nodes_left}
use Rattle.hg_report.proofs.summary.write_nodes.Goals as goal

pub loop-node-preserved : goal.loop-node-preserved
loop-node-preserved g c =
    more_put _ _ _ _ _ _ _ (nodes_left c.args.names.now c.args.nodes.now c.loop-node.node-index _ c.loop-node-test.true) c.loop-node.invariant c.in_ok-write_node.ensures

pub returns-in_err-write_node : goal.returns-in_err-write_node
returns-in_err-write_node g c =
    failed _ _ _ _ c.from_residual.ensures.0
    (stopped_within _ _ _ _ _ _ _ (nodes_left c.args.names.now c.args.nodes.now c.loop-node.node-index _ c.loop-node-test.true) c.loop-node.invariant c.in_err-write_node.ensures)
