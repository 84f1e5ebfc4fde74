use Rattle.std.proofs.Common.{◌≤◌}
use Rattle.hg_node.proofs.FlagLaws.{WalksDown}
use Rattle.hg_answering.proofs.beyond_rows.flag_behind.Given as goal

abbrev pub invariant-rows : goal.invariant-rows
invariant-rows l = (l.start ≤ l.x) × WalksDown l.graph.graph.rows l.names l.x l.flags

abbrev pub decreases-rows : goal.decreases-rows
decreases-rows l = l.x
