use Rattle.std.proofs.Common.{◌<◌, length}
use Rattle.hg_plain_graph.proofs.TableLaws.{cell_known}
use Rattle.hg_plain_graph.proofs.sight.PlainSight.strongly_sees.Goals as goal

pub returns : goal.returns
returns c =
    let L = c.self.inside.seeing.links in
    let left : c.args.x < length L = rw c.self.view_is c.requires.left in
    let right : c.args.y < length L = rw c.self.view_is c.requires.right in
    rw (← c.self.view_is) (cell_known _ _ _ _ _ _ _ _ c.self.invariant.strongly_sees c.deref.ensures.value c.cell.ensures left right)
