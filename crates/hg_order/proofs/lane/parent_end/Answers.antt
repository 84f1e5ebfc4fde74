use Rattle.std.proofs.Common.{◌+◌, ◌-◌, ◌∙◌, refl, arith}
use Rattle.std.proofs.lemmas.Bool.{le-ltb, lt-ltb}
use Rattle.hg_order.proofs.FromLaws.{from_some}
use Rattle.hg_order.proofs.LineLaws.{self_parent_before}
use Rattle.hg_order.proofs.lane.parent_end.Goals as goal

pub overflow_add-result : goal.overflow_add-result
overflow_add-result g c =
    let before = self_parent_before _ c.is_shaped.ensures.shaped.earlier _ _ c.in-Some.ensures in
    let place = c.ranges.z.fits in
    omega arith

pub returns-else-parent-low : goal.returns-else-parent-low
returns-else-parent-low g c =
    let over = c.if-parent-low.false in
    rw (← c.in-Some.ensures, le-ltb c.in-Some.parent c.args.low over) (from_some c.args.low (c.in-Some.parent - c.args.low + 1) (omega arith) ∙ omega arith)

pub returns-then-parent-low : goal.returns-then-parent-low
returns-then-parent-low g c = rw (← c.in-Some.ensures, lt-ltb c.in-Some.parent c.args.low c.if-parent-low.true) refl

pub returns-in-None : goal.returns-in-None
returns-in-None g c = rw (← c.in-None.ensures) refl
