use Rattle.hg_plain_graph.proofs.StepLaws.{ancestor_here, ancestor_above}
use Rattle.hg_plain_graph.proofs.ancestry.next_ancestor.Goals as goal

pub returns-then-x-y : goal.returns-then-x-y
returns-then-x-y c = ancestor_here _ c.requires.earlier _ _ c.args.by c.if-x-y.true

pub returns-else-x-y : goal.returns-else-x-y
returns-else-x-y c = ancestor_above _ c.requires.earlier _ _ c.args.by _ _ c.requires.known c.if-x-y.false c.any_parent.ensures
