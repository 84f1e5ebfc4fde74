use Rattle.std.proofs.Common.{false}
use Rattle.hg_model.specs.Forks.{has_fork_below}
use Rattle.hg_plain_graph.specs.Tables.{IsTableOf}
use Rattle.hg_plain_graph.proofs.seeing.forked_column.Given as goal

abbrev pub invariant-loop-x : goal.invariant-loop-x
invariant-loop-x l = IsTableOf false (λ x. has_fork_below l.ancestry x l.member) l.x l.column.items
