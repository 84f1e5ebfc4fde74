use Rattle.std.proofs.Common.{false}
use Rattle.hg_plain_graph.specs.By.{is_ancestor_by}
use Rattle.hg_plain_graph.specs.Tables.{IsTableOf}
use Rattle.hg_plain_graph.proofs.ancestry.ancestor_column.Given as goal

abbrev pub invariant-loop-x : goal.invariant-loop-x
invariant-loop-x l = IsTableOf false (λ x. is_ancestor_by l.by l.links x l.y) l.x l.column.items
