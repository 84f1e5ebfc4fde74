use Rattle.hg_node.specs.ChronicleView.{graph_in}
use Rattle.check_graphs.proofs.carried.is_carried.Goals as goal

pub loop-len-init : goal.loop-len-init
loop-len-init c = record { votes = c.empty-votes.ensures (graph_in c.args.node.now).members (graph_in c.args.node.now).coin }
