use Rattle.std.proofs.Common.{length}
use Rattle.hg_model.specs.Forks.{has_fork_below}
use Rattle.hg_plain_graph.specs.Tables.{IsTableOfPairs}
use Rattle.hg_plain_graph.proofs.seeing.forked_columns.Given as goal

abbrev pub invariant-loop-member : goal.invariant-loop-member
invariant-loop-member l = IsTableOfPairs (has_fork_below l.ancestry) (length l.ancestry) l.member l.columns.items
