use Rattle.std.proofs.Common.{◌<◌, ◌∙◌, [], length, set}
use Rattle.std.proofs.lemmas.List.{get_or_default}
use Rattle.hg_order.specs.Swept.{lines_from}
use Rattle.hg_order.proofs.SweepLaws.{follows_from, lanes_gained, few_still, swept_next, advanced_still}
use Rattle.hg_order.proofs.sweep.sweep_row.Goals as goal

pub advance_lanes-requires-clause-lanes : goal.advance_lanes-requires-clause-lanes
advance_lanes-requires-clause-lanes g c =
    let low = c.args.wanted.now.low in
    let lines = c.args.lanes.now.last.items in
    let m = c.creator-member.result in
    let room : m < length lines = rw c.requires.members c.creator-member.ensures.member in
    let read = c.index_mut-last.ensures.value ∙ get_or_default lines m c.index_mut-last.result.now [] room in
    let row = follows_from _ c.is_shaped.ensures.shaped low lines c.requires.last c.args.line_row.place c.requires.place m c.creator-member.ensures.value room _ _ read _ c.if-last-member.false c.parent_end.ensures _ _ _ _ c.in-Some.ensures in
    lanes_gained _ _ c.args.wanted.now.least low c.args.wanted.now.need c.requires.swept.0 _ _ _ c.args.timers.now c.requires.swept.1 c.args.line_row c.requires.inside (lines_from low (set lines m c.gain_row.new.last)) row.on _ _ row.gained

pub returns-then-most-wanted-clause-last : goal.returns-then-most-wanted-clause-last
returns-then-most-wanted-clause-last g c = λ _.
    let low = c.args.wanted.now.low in
    let lines = c.args.lanes.now.last.items in
    let m = c.creator-member.result in
    let room : m < length lines = rw c.requires.members c.creator-member.ensures.member in
    let read = c.index_mut-last.ensures.value ∙ get_or_default lines m c.index_mut-last.result.now [] room in
    let row = follows_from _ c.is_shaped.ensures.shaped low lines c.requires.last c.args.line_row.place c.requires.place m c.creator-member.ensures.value room _ _ read _ c.if-last-member.false c.parent_end.ensures _ _ _ _ c.in-Some.ensures in
    rw c.advance_lanes.ensures.last row.last

pub returns-else-most-wanted-clause-last : goal.returns-else-most-wanted-clause-last
returns-else-most-wanted-clause-last g c = λ _.
    let low = c.args.wanted.now.low in
    let lines = c.args.lanes.now.last.items in
    let m = c.creator-member.result in
    let room : m < length lines = rw c.requires.members c.creator-member.ensures.member in
    let read = c.index_mut-last.ensures.value ∙ get_or_default lines m c.index_mut-last.result.now [] room in
    let row = follows_from _ c.is_shaped.ensures.shaped low lines c.requires.last c.args.line_row.place c.requires.place m c.creator-member.ensures.value room _ _ read _ c.if-last-member.false c.parent_end.ensures _ _ _ _ c.in-Some.ensures in
    row.last

pub returns-then-most-wanted-clause-on : goal.returns-then-most-wanted-clause-on
returns-then-most-wanted-clause-on g c = λ _ line_rows swept.
    let low = c.args.wanted.now.low in
    let lines = c.args.lanes.now.last.items in
    let m = c.creator-member.result in
    let room : m < length lines = rw c.requires.members c.creator-member.ensures.member in
    let read = c.index_mut-last.ensures.value ∙ get_or_default lines m c.index_mut-last.result.now [] room in
    let row = follows_from _ c.is_shaped.ensures.shaped low lines c.requires.last c.args.line_row.place c.requires.place m c.creator-member.ensures.value room _ _ read _ c.if-last-member.false c.parent_end.ensures _ _ _ _ c.in-Some.ensures in
    let moved = c.advance_lanes.ensures in
    rw moved.last (swept_next (g.S.Sight.shape c.args.sight.now).members _ c.args.wanted.now.least low c.args.wanted.now.need line_rows _ _ _ _ swept c.args.line_row c.requires.inside (lines_from low (set lines m c.gain_row.new.last)) row.on _ _ _ (rw moved.last at moved.moved) moved.few)

pub returns-else-most-wanted-clause-on : goal.returns-else-most-wanted-clause-on
returns-else-most-wanted-clause-on g c = λ _ line_rows swept.
    let low = c.args.wanted.now.low in
    let lines = c.args.lanes.now.last.items in
    let m = c.creator-member.result in
    let room : m < length lines = rw c.requires.members c.creator-member.ensures.member in
    let read = c.index_mut-last.ensures.value ∙ get_or_default lines m c.index_mut-last.result.now [] room in
    let row = follows_from _ c.is_shaped.ensures.shaped low lines c.requires.last c.args.line_row.place c.requires.place m c.creator-member.ensures.value room _ _ read _ c.if-last-member.false c.parent_end.ensures _ _ _ _ c.in-Some.ensures in
    let lanes = lanes_gained _ _ c.args.wanted.now.least low c.args.wanted.now.need line_rows _ _ _ _ swept c.args.line_row c.requires.inside (lines_from low (set lines m c.gain_row.new.last)) row.on _ _ row.gained in
    let few = few_still _ _ c.args.wanted.now.least low c.args.wanted.now.need line_rows _ _ _ _ swept c.args.line_row c.requires.inside (lines_from low (set lines m c.gain_row.new.last)) row.on _ _ row.gained c.if-most-wanted.false in
    swept_next (g.S.Sight.shape c.args.sight.now).members _ c.args.wanted.now.least low c.args.wanted.now.need line_rows _ _ _ _ swept c.args.line_row c.requires.inside (lines_from low (set lines m c.gain_row.new.last)) row.on _ _ _ (advanced_still _ _ _ _ _ _ _ _ _ lanes swept.linked) few
