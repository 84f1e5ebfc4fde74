use Rattle.std.proofs.Common.{arith, []}
use Rattle.hg_model.proofs.ReachLaws.{has_place_first}
use Rattle.hg_order.proofs.LineLaws.{self_parent_before}
use Rattle.hg_order.proofs.TimerLaws.{none_before, parent_before}
use Rattle.hg_kept.proofs.walking.end_before.Goals as goal

pub overflow_add-result : goal.overflow_add-result
overflow_add-result g c =
    let e = c.is_of_graph.ensures in
    let before = self_parent_before _ e.shaped.earlier _ _ (rw e.matches.shaped at c.in-Some.ensures) in
    let place = c.ranges.x.fits in
    omega arith

pub returns-in-None : goal.returns-in-None
returns-in-None g c =
    let e = c.is_of_graph.ensures in
    none_before _ e.shaped.earlier c.requires.lines _ c.requires.place (rw e.matches.shaped at c.in-None.ensures)

pub returns-in-Some : goal.returns-in-Some
returns-in-Some g c =
    let e = c.is_of_graph.ensures in
    let is = rw e.matches.shaped at c.in-Some.ensures in
    parent_before _ e.shaped.earlier c.requires.lines _ _ c.requires.place is
    (e.shaped.self_by_same _ _ (rw (← is) (has_place_first c.in-Some.parent [])))
