use Rattle.std.proofs.Common.{drop}
use Rattle.hg_io.specs.Printing.{IsPutUpTo, desk}
use Rattle.hg_report.specs.Summary.{nodes_text}
use Rattle.hg_report.proofs.summary.write_nodes.Given as goal

abbrev pub invariant-loop-node : goal.invariant-loop-node
invariant-loop-node g l =
    let sink = g.K.Sink in
    IsPutUpTo (desk sink l.initial.sink l.initial.page) (desk sink l.sink l.page)
    (nodes_text l.names (drop l.node-index l.nodes)) (nodes_text l.names l.nodes)
