use Rattle.std.proofs.Common.{false}
use Rattle.hg_model.specs.Seeing.{sees_through}
use Rattle.hg_plain_graph.specs.Tables.{IsTableOf}
use Rattle.hg_plain_graph.proofs.strongly_seeing.through_column.Given as goal

abbrev pub invariant-loop-x : goal.invariant-loop-x
invariant-loop-x l = IsTableOf false (λ x. sees_through l.seeing.links x l.y l.member) l.x l.column.items
