use Rattle.hg_crowd.proofs.sharing.+start_each.Given as goal

abbrev pub decreases-start_each : goal.decreases-start_each
decreases-start_each g l = l.nodes.now.len
