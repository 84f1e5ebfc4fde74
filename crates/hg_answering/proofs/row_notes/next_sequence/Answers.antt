use Rattle.std.proofs.Common.{arith}
use Rattle.hg_answering.proofs.SequenceLaws.{next_first, next_from}
use Rattle.hg_answering.proofs.row_notes.next_sequence.Goals as goal

pub offset_bounds-sequences-own : goal.offset_bounds-sequences-own
offset_bounds-sequences-own g c =
    let is = next_from _ _ c.is_shaped.ensures.shaped c.args.sequences.now c.args.x c.in-Some.own c.requires.before c.in-Some.ensures in
    let below = is.below in
    let place = c.requires.place in
    let short = c.is_shaped.ensures.short in
    omega (arith, below, place, short)

pub bounds-sequences-own : goal.bounds-sequences-own
bounds-sequences-own g c = (next_from _ _ c.is_shaped.ensures.shaped c.args.sequences.now c.args.x c.in-Some.own c.requires.before c.in-Some.ensures).inside

pub overflow_add-result : goal.overflow_add-result
overflow_add-result g c =
    let is = next_from _ _ c.is_shaped.ensures.shaped c.args.sequences.now c.args.x c.in-Some.own c.requires.before c.in-Some.ensures in
    let small = is.small in
    let x = c.ranges.x.fits in
    omega (arith, small, x)

pub returns-in-None : goal.returns-in-None
returns-in-None g c = next_first _ _ c.is_shaped.ensures.shaped c.args.x c.in-None.ensures

pub returns-in-Some : goal.returns-in-Some
returns-in-Some g c = (next_from _ _ c.is_shaped.ensures.shaped c.args.sequences.now c.args.x c.in-Some.own c.requires.before c.in-Some.ensures).next
