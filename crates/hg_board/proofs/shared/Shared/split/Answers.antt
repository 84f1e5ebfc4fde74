use Rattle.std.proofs.Common.{ap, arith}
use Rattle.hg_board.proofs.MoveLaws.{splits}
use Rattle.hg_board.proofs.SeatLaws.{same_table}
use Rattle.hg_board.proofs.shared.Shared.split.Goals as goal

pub split_seat-other-requires : goal.split_seat-other-requires
split_seat-other-requires g c =
    let top = c.self.inside.table.shared in
    let i = c.seat.invariant.0 in
    let parts = ap (λ s. s.parts) c.seat.view_is in (
      same_table top.table_id c.seat.inside.raw.table_id top.key.value c.seat.inside.raw.me.0 c.args.self.now c.args.seat.now c.self.view_is c.seat.view_is c.requires.seat,
      omega (arith, c.self.invariant.words),
      splits g.V.Verifier.accepts top.key.value _ c.seat.inside.raw.me.0 i.free (omega (arith, parts, c.requires.parts)),
    )
