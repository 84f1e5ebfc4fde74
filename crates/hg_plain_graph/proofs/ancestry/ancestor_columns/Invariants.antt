use Rattle.std.proofs.Common.{length}
use Rattle.hg_plain_graph.specs.By.{is_ancestor_by}
use Rattle.hg_plain_graph.specs.Tables.{IsTableOfPairs}
use Rattle.hg_plain_graph.proofs.ancestry.ancestor_columns.Given as goal

abbrev pub invariant-loop-y : goal.invariant-loop-y
invariant-loop-y l = IsTableOfPairs (is_ancestor_by l.by l.links) (length l.links) l.y l.columns.items
