use Rattle.std.proofs.Common.{◌≡◌, ◌+◌, ◌*◌, ◌≤◌, inl, inr, ap, arith, length, refl}
use Rattle.hg_blocks.proofs.RowLaws.{room_left}
use Rattle.hg_blocks.proofs.rows.RowBlocks.reserve_block.Goals as goal
use Rattle.hg_blocks.proofs.rows.RowBlocks.reserve_block.Goals.{then-len-whole+then-whole-gt0+in_ok-seal, else-len-whole, else-len-whole-via-then-len-whole+else-whole-gt0, else-len-whole-via-else-len-whole}

pub returns-clause-room : goal.returns-clause-room
returns-clause-room g c =
    let s = c.if-len-whole.self-inside in
    let left : (length s.tail.items + s.width ≤ 64 * s.width) × (s.width ≡ c.self.inside.width) = elim c.if-len-whole.branch [
      | then-len-whole+then-whole-gt0+in_ok-seal w ↦ rw w.self-inside-is (rw w.in_ok-seal.ensures.empty (omega arith), refl)
      | else-len-whole w ↦ rw w.self-inside-is (
        room_left _ c.self.invariant.rows _ c.self.invariant.whole c.self.invariant.few (elim w.else-len-whole.branch [
          | else-len-whole-via-then-len-whole+else-whole-gt0 v ↦ inr (omega arith)
          | else-len-whole-via-else-len-whole v ↦ inl (λ same. v.if-len-whole.false (omega arith))
        ]),
        refl,
      )
    ] in
    omega (arith, left.0, left.1, ap length c.reserve.ensures.items, c.in_ok-reserve.ensures.ok, c.len-2.ensures)
