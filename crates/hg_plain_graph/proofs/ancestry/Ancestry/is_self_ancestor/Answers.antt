use Rattle.std.proofs.Common.{length, ◌<◌}
use Rattle.hg_plain_graph.proofs.TableLaws.{cell_known}
use Rattle.hg_plain_graph.proofs.ancestry.Ancestry.is_self_ancestor.Goals as goal

pub returns : goal.returns
returns c =
    let left : c.args.x < length c.self.inside.links.items = rw c.self.view_is c.requires.left in
    let right : c.args.y < length c.self.inside.links.items = rw c.self.view_is c.requires.right in
    rw (← c.self.view_is) (cell_known _ _ _ _ _ _ _ _ c.self.invariant.self_ancestors c.deref.ensures.value c.cell.ensures left right)
