use Rattle.std.proofs.Common.{◌∙◌, arith}
use Rattle.hg_order.proofs.SweepLaws.{advanced_none, row_there, row_from, step_facts, next_window, advanced_next}
use Rattle.hg_order.specs.Swept.{lines_from}
use Rattle.hg_order.proofs.lane.advance.Goals as goal

pub loop-lane-init : goal.loop-lane-init
loop-lane-init g c = advanced_none _ c.args.course.bound (lines_from c.args.course.low c.args.last.now) c.args.course.low c.args.course.need c.args.course.time c.args.start.next c.args.timers.now c.args.start.above c.requires.linked c.requires.lane

pub overflow_sub-k : goal.overflow_sub-k
overflow_sub-k g c = (let there = row_there _ _ _ _ _ _ _ _ _ _ _ _ c.loop-lane.invariant c.requires.some c.loop-lane-test.true in omega arith)

pub lane_at-lane-requires-clause-from : goal.lane_at-lane-requires-clause-from
lane_at-lane-requires-clause-from g c =
    let i = c.loop-lane.invariant in
    let facts = step_facts _ _ _ _ _ _ _ _ _ _ _ _ i c.requires.some c.loop-lane-test.true in
    let from = row_from _ _ _ _ _ _ _ _ _ _ _ _ i c.requires.some c.loop-lane-test.true in
    (next_window _ c.args.course.low _ _ _ _ c.args.course.bound _ facts (omega arith) c.next_below.ensures).0

pub lane_at-lane-requires-clause-near : goal.lane_at-lane-requires-clause-near
lane_at-lane-requires-clause-near g c =
    let i = c.loop-lane.invariant in
    let facts = step_facts _ _ _ _ _ _ _ _ _ _ _ _ i c.requires.some c.loop-lane-test.true in
    let from = row_from _ _ _ _ _ _ _ _ _ _ _ _ i c.requires.some c.loop-lane-test.true in
    let to = (next_window _ c.args.course.low _ _ _ _ c.args.course.bound _ facts (omega arith) c.next_below.ensures).1 in
    omega (arith, to, i.long, c.requires.short)

pub loop-lane-preserved : goal.loop-lane-preserved
loop-lane-preserved g c =
    let is = c.lane_at-lane.ensures.next in
    advanced_next _ c.args.course.bound (lines_from c.args.course.low c.args.last.now) c.args.course.low c.args.course.need c.args.course.time c.args.start.next c.args.timers.now _ c.loop-lane.lane.next c.loop-lane.lane.above c.loop-lane.timers
    c.loop-lane.invariant c.requires.some c.loop-lane-test.true c.lane_at-lane.result.next c.lane_at-lane.result.above (is ∙ c.next_below.ensures)
    (rw (← is) at c.lane_at-lane.ensures.counted) (rw (← is) at c.lane_at-lane.ensures.idle)
