use Rattle.std.proofs.Common.{◌+◌, ◌-◌, ◌/◌, arith}
use Rattle.hg_model.proofs.AncestryLaws.{is_self_ancestor-le}
use Rattle.hg_order.proofs.ListingLaws.{found_by_halves}
use Rattle.hg_order.proofs.lines.find_first.Goals as goal

pub ancestor-requires-clause-left : goal.ancestor-requires-clause-left
ancestor-requires-clause-left g c =
    let between = c.loop-has.invariant in
    let from = between.from in
    let to = between.to in
    let more = c.loop-has-test.true in
    let middle = c.loop-has.has + (c.loop-has.lacks - c.loop-has.has) / 2 in
    let le = is_self_ancestor-le _ c.requires.shaped.earlier _ _ (c.requires.line.on middle (omega arith) (omega arith)) in
    let top = c.requires.top in
    omega arith

pub returns-clause-value : goal.returns-clause-value
returns-clause-value g c =
    found_by_halves _ c.requires.shaped.earlier _ _ _ _ _ _ c.requires.line c.loop-has.invariant c.loop-has-test.false
