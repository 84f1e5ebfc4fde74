use Rattle.std.proofs.Common.{◌∙◌, false, get_or, ap}
use Rattle.std.specs.List.{list_any}
use Rattle.hg_model.specs.Links.{parents}
use Rattle.hg_plain_graph.proofs.StepLaws.{through_here, through_above}
use Rattle.hg_plain_graph.proofs.strongly_seeing.next_through.Goals as goal

pub returns-then-is_seen_by : goal.returns-then-is_seen_by
returns-then-is_seen_by c = through_here _ c.ancestry.ensures.shaped.earlier _ _ _ _ c.is_seen_by.ensures c.if-is_seen_by.true

pub returns-else-is_seen_by : goal.returns-else-is_seen_by
returns-else-is_seen_by c =
    let same = c.links-links.ensures ∙ c.ancestry.ensures.value in
    let above = c.any_parent.ensures ∙ ap (λ links. list_any (λ p. get_or c.args.column.now p false) (parents links c.args.x)) same in
    through_above _ c.ancestry.ensures.shaped.earlier _ _ _ _ c.is_seen_by.ensures _ _ c.requires.known c.if-is_seen_by.false above
