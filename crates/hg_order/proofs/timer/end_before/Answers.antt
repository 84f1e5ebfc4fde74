use Rattle.std.proofs.Common.{arith, []}
use Rattle.hg_model.proofs.ReachLaws.{has_place_first}
use Rattle.hg_order.proofs.LineLaws.{self_parent_before}
use Rattle.hg_order.proofs.TimerLaws.{none_before, parent_before}
use Rattle.hg_order.proofs.timer.end_before.Goals as goal

pub overflow_add-result : goal.overflow_add-result
overflow_add-result g c =
    let before = self_parent_before _ c.requires.shaped.earlier _ _ c.in-Some.ensures in
    let place = c.requires.place in
    omega arith

pub returns-in-None : goal.returns-in-None
returns-in-None g c = none_before _ c.requires.shaped.earlier c.requires.lines _ c.requires.place c.in-None.ensures

pub returns-in-Some : goal.returns-in-Some
returns-in-Some g c = parent_before _ c.requires.shaped.earlier c.requires.lines _ _ c.requires.place c.in-Some.ensures
    (c.requires.shaped.self_by_same _ _ (rw (← c.in-Some.ensures) (has_place_first c.in-Some.parent [])))
