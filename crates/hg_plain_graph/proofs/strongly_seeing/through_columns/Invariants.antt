use Rattle.std.proofs.Common.{length}
use Rattle.hg_model.specs.Seeing.{sees_through}
use Rattle.hg_plain_graph.specs.Tables.{IsTableOfPairs}
use Rattle.hg_plain_graph.proofs.strongly_seeing.through_columns.Given as goal

abbrev pub invariant-loop-member : goal.invariant-loop-member
invariant-loop-member l = IsTableOfPairs (λ x m. sees_through l.seeing.links x l.y m) (length l.seeing.links) l.member l.columns.items
