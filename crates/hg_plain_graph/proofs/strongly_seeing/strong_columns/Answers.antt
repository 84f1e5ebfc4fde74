use Rattle.hg_plain_graph.proofs.TableLaws.{IsTableOfPairs_more}
use Rattle.hg_plain_graph.proofs.strongly_seeing.strong_columns.Goals as goal

pub loop-y-preserved : goal.loop-y-preserved
loop-y-preserved c = rw c.in_ok-push.ensures.items (IsTableOfPairs_more _ _ _ _ _ c.loop-y.invariant c.in_ok-strong_column.ensures)
