use Rattle.std.proofs.Common.{length}
use Rattle.hg_model.specs.Seeing.{strongly_sees}
use Rattle.hg_plain_graph.specs.Tables.{IsTableOfPairs}
use Rattle.hg_plain_graph.proofs.strongly_seeing.strong_columns.Given as goal

abbrev pub invariant-loop-y : goal.invariant-loop-y
invariant-loop-y l = IsTableOfPairs (strongly_sees l.seeing.members l.seeing.links) (length l.seeing.links) l.y l.columns.items
