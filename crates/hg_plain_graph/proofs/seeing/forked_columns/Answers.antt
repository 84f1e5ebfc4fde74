use Rattle.hg_plain_graph.proofs.TableLaws.{IsTableOfPairs_more}
use Rattle.hg_plain_graph.proofs.seeing.forked_columns.Goals as goal

pub loop-member-preserved : goal.loop-member-preserved
loop-member-preserved c = rw c.in_ok-push.ensures.items (IsTableOfPairs_more _ _ _ _ _ c.loop-member.invariant c.in_ok-forked_column.ensures)
