use Rattle.std.proofs.Common.{arith, refl}
use Rattle.hg_order.proofs.LineLaws.{self_parent_before}
use Rattle.hg_order.proofs.GainLaws.{new_of_first, ticked_by}
use Rattle.hg_order.proofs.timer.tick_row.Goals as goal

pub counts-requires-in-Some-self_parent : goal.counts-requires-in-Some-self_parent
counts-requires-in-Some-self_parent g c =
    let before = self_parent_before _ c.is_shaped.ensures.shaped.earlier _ _ c.in-Some-self_parent.ensures in
    let place = c.requires.place in
    omega arith

pub returns-in-None : goal.returns-in-None
returns-in-None g c = λ _.
    ticked_by _ _ c.is_shaped.ensures.shaped _ _ c.in-Some.ensures c.args.line_row refl _ _ _ _ _ (new_of_first _ _ 128 c.in-None.ensures)
    (rw c.no_counts.ensures at c.tick_between.ensures)
