use Rattle.hg_graph.specs.Held.{first_graph}
use Rattle.hg_node.specs.ChronicleView.{graph_in}
use Rattle.hg_votes.specs.Counting.{IsMadeFor}
use Rattle.check_graphs.proofs.carried.is_carried.Given as goal

abbrev pub invariant-loop-len : goal.invariant-loop-len
invariant-loop-len l = record {
  votes : IsMadeFor l.votes (first_graph (graph_in l.node) l.len);
}
