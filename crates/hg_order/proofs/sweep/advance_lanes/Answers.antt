use Rattle.std.proofs.Common.{◌<◌, ◌+◌, length, rules, inl, inr, arith}
use Rattle.std.proofs.lemmas.Bool.{cases_lt}
use Rattle.hg_order.specs.Swept.{lines_from}
use Rattle.hg_order.proofs.FromLaws.{from_within, read_from}
use Rattle.hg_order.proofs.SweepLaws.{lane_from, lane_past, lanes_from, few_next, same_next}
use Rattle.hg_order.proofs.sweep.advance_lanes.Goals as goal

pub end_from-requires : goal.end_from-requires
end_from-requires g c =
    let to = (c.loop-m.invariant.advanced.lanes c.loop-m.m).to in
    let few = from_within c.args.wanted.now.low _ (length c.loop-m.timers) (rw (read_from c.args.wanted.now.low c.loop-m.lanes.next c.loop-m.m) at to) in
    omega (arith, few, c.loop-m.invariant.advanced.long, c.requires.inside, c.is_shaped.ensures.short)

pub advance-lane-requires-clause-lane : goal.advance-lane-requires-clause-lane
advance-lane-requires-clause-lane g c =
    rw (c.deref.ensures.value, c.loop-m.invariant.last, c.end_from.ensures)
    (lane_from _ (lines_from c.args.wanted.now.low c.args.lanes.now.last.items) c.args.wanted.now.low c.loop-m.m _ _ c.args.wanted.now.need c.loop-m.timers
    (rw (read_from c.args.wanted.now.low c.loop-m.lanes.next c.loop-m.m) at (c.loop-m.invariant.advanced.lanes c.loop-m.m)) c.requires.some (omega arith))

pub count_from-requires : goal.count_from-requires
count_from-requires g c =
    let moved = c.advance-lane.ensures.moved in
    let to = moved.lane.to in
    omega (arith, to, moved.long, c.loop-m.invariant.advanced.long, c.requires.short)

pub loop-m-preserved : goal.loop-m-preserved
loop-m-preserved g c =
    let few = c.loop-m-test.true in
    let at_lane = rw (read_from c.args.wanted.now.low c.loop-m.lanes.next c.loop-m.m) at (c.loop-m.invariant.advanced.lanes c.loop-m.m) in
    let lane = lane_from _ (lines_from c.args.wanted.now.low c.args.lanes.now.last.items) c.args.wanted.now.low c.loop-m.m _ _ c.args.wanted.now.need c.loop-m.timers at_lane c.requires.some (omega arith) in
    let from = lane.from in
    let room : c.loop-m.m < length c.loop-m.lanes.next = search rules in
    let room_above : c.loop-m.m < length c.loop-m.lanes.above = search rules in
    record {
      advanced = rw c.count_from.ensures (lanes_from _ c.args.wanted.now.least (lines_from c.args.wanted.now.low c.args.lanes.now.last.items) c.args.wanted.now.low c.args.wanted.now.need c.args.time c.args.lanes.now.next c.loop-m.lanes.next c.loop-m.lanes.above
          c.args.timers.now c.loop-m.timers c.loop-m.invariant.advanced c.loop-m.m (c.loop-m.invariant.same c.loop-m.m (omega arith)) room room_above (omega arith) _ _ _
          (rw (c.deref.ensures.value, c.loop-m.invariant.last, c.end_from.ensures) at c.advance-lane.ensures.moved));
      few = few_next c.loop-m.lanes.above c.loop-m.m c.advance-lane.result.above c.args.wanted.now.need room_above c.advance-lane.ensures.few c.loop-m.invariant.few;
      same = same_next c.loop-m.lanes.next c.args.lanes.now.next c.loop-m.m c.count_from.result c.loop-m.invariant.same;
      last = c.loop-m.invariant.last;
    }

pub returns-clause-few : goal.returns-clause-few
returns-clause-few g c m =
    let s = c.is_shaped.ensures.shaped in
    let a = c.loop-m.invariant.advanced in
    let long = a.long in
    let wide = c.requires.members in
    elim (cases_lt m c.loop-m.m) [
      | inl here ↦ c.loop-m.invariant.few m here
      | inr over ↦
          (let over_all = c.loop-m-test.false in
          let len = c.len-m-end.ensures in
          let some = c.requires.some in
          let inside = c.requires.inside in
          let none = lane_past _ _ s (lines_from c.args.wanted.now.low c.args.lanes.now.last.items) c.args.wanted.now.low (c.args.wanted.now.low + length c.loop-m.timers) m _ _ (omega arith) (omega arith) (a.lanes m) in
          let idle = (a.lanes m).idle none in
          omega arith)
    ]
