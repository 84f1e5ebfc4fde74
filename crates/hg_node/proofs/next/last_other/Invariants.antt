use Rattle.hg_node.proofs.NextLaws.{IsAmong}
use Rattle.hg_node.proofs.next.last_other.Given as goal

abbrev pub invariant-rows : goal.invariant-rows
invariant-rows l = IsAmong l.own l.graph.graph.rows l.x

abbrev pub decreases-rows : goal.decreases-rows
decreases-rows l = l.x
