use Rattle.std.proofs.Common.{◌≢◌, ◌*◌, inl, ap, arith, length}
use Rattle.hg_blocks.proofs.RowLaws.{room_left}
use Rattle.hg_blocks.proofs.rows.RowBlocks.reserve.Goals as goal

pub returns-then-whole-capacity-clause-room : goal.returns-then-whole-capacity-clause-room
returns-then-whole-capacity-clause-room g c =
    let s = c.self.inside in
    let unfilled : length s.tail.items ≢ 64 * s.width = λ same. omega (arith, same, c.saturating_mul-whole.ensures, c.if-len-whole.true, c.len.ensures) in
    let left = room_left s.width _ (length s.tail.items) c.self.invariant.whole c.self.invariant.few (inl unfilled) in
    omega (arith, left, ap (λ v. v.room) c.self.view_is, c.saturating_mul-whole.ensures, c.if-len-whole.true, c.if-whole-capacity.true, c.len.ensures, c.capacity.ensures)
