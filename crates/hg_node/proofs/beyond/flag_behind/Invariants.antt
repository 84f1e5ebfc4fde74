use Rattle.hg_node.proofs.FlagLaws.{WalksDown}
use Rattle.hg_node.proofs.beyond.flag_behind.Given as goal

abbrev pub invariant-rows : goal.invariant-rows
invariant-rows l = WalksDown l.graph.graph.rows l.names l.x l.flags

abbrev pub decreases-rows : goal.decreases-rows
decreases-rows l = l.x
