use Rattle.std.proofs.Common.{false}
use Rattle.hg_model.specs.Seeing.{strongly_sees}
use Rattle.hg_plain_graph.specs.Tables.{IsTableOf}
use Rattle.hg_plain_graph.proofs.strongly_seeing.strong_column.Given as goal

abbrev pub invariant-loop-x : goal.invariant-loop-x
invariant-loop-x l = IsTableOf false (λ x. strongly_sees l.seeing.members l.seeing.links x l.y) l.x l.column.items
