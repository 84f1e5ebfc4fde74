use Rattle.std.proofs.Common.{◌≡◌, ◌<◌, ◌∙◌, ap, length}
use Rattle.hg_model.specs.Links.{creator}
use Rattle.hg_model.specs.Shape.{Shape}
use Rattle.hg_plain_graph.proofs.TableLaws.{cell_known}
use Rattle.hg_plain_graph.proofs.seeing.Seeing.is_forked.Goals as goal

pub returns : goal.returns
returns c =
    let L = c.self.inside.ancestry in
    let shown : L ≡ c.args.self.now.links = ap (λ (s : Shape). s.links) c.self.view_is in
    let left : c.args.x < length L = rw shown c.requires.left in
    let right : c.args.y < length L = rw shown c.requires.right in
    let member : c.from.result ≡ creator L c.args.y = c.from.ensures ∙ (c.creator_of-creator.ensures ∙ ap (λ links. creator links c.args.y) c.links.ensures) in
    let inside : c.from.result < length c.self.inside.stakes.items = rw member (c.self.invariant.shaped.members c.args.y right) in
    rw (← shown, ← member) (cell_known _ _ _ _ _ _ _ _ c.self.invariant.forked c.deref.ensures.value c.cell.ensures left inside)
