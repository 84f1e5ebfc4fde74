use Rattle.std.proofs.Common.{◌≤◌}
use Rattle.hg_answering.specs.Beyond.{BeginWith, beyond_before}
use Rattle.hg_answering.proofs.beyond_rows.unflagged_from.Given as goal

abbrev pub invariant-loop-x : goal.invariant-loop-x
invariant-loop-x l = (l.all ≤ l.x) × BeginWith l.limit (beyond_before l.graph.graph.rows l.flags l.start l.x) l.all l.events.items
