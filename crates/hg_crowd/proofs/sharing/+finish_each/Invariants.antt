use Rattle.hg_crowd.proofs.sharing.+finish_each.Given as goal

abbrev pub decreases-finish_each : goal.decreases-finish_each
decreases-finish_each g l = l.shared.now.len
