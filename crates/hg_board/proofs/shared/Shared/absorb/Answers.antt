use Rattle.std.proofs.Common.{◌≡◌, ◌+◌, ap, ◌∙◌, subst, arith}
use Rattle.hg_board.specs.Seats.{shared_node, seat_view_of}
use Rattle.hg_board.specs.Calls.{Absorbs}
use Rattle.hg_board.proofs.MoveLaws.{compares, joins}
use Rattle.hg_board.proofs.SeatLaws.{as_seen, of_inside, same_table}
use Rattle.hg_board.proofs.JoinLaws.{absorbs}
use Rattle.hg_board.proofs.shared.Shared.absorb.Goals as goal

pub join_seat-requires : goal.join_seat-requires
join_seat-requires g c =
    let top = c.self.inside.table.shared in
    let i = c.seat.invariant.0 in
    let j = c.other.invariant.0 in (
      same_table top.table_id c.seat.inside.raw.table_id top.key.value c.seat.inside.raw.me.0 c.args.self.now c.args.seat.now c.self.view_is c.seat.view_is c.requires.seat,
      same_table top.table_id c.other.inside.raw.table_id top.key.value c.other.inside.raw.me.0 c.args.self.now c.args.other c.self.view_is c.other.view_is c.requires.other,
      j.empty,
      omega (arith, c.self.invariant.words),
      joins g.V.Verifier.accepts top.key.value _ c.seat.inside.raw.me.0 _ c.other.inside.raw.me.0 i.free j.free i.alive,
    )

pub load-requires : goal.load-requires
load-requires g c =
    let top = c.self.inside.table.shared in
    let i = c.seat.invariant.0 in
    let e = c.join_seat.ensures.2 in
    let parts : c.join_seat.new.seat.me.0.parts ≡ c.seat.inside.raw.me.0.parts + c.other.inside.raw.me.0.parts = ap (λ m. m.0.parts) e in (
      c.join_seat.ensures.0 ∙ same_table top.table_id c.seat.inside.raw.table_id top.key.value c.seat.inside.raw.me.0 c.args.self.now c.args.seat.now c.self.view_is c.seat.view_is c.requires.seat,
      omega (arith, c.self.invariant.words),
      compares g.V.Verifier.accepts top.key.value _ _ c.join_seat.new.seat.me.0 c.join_seat.new.seat.me.1 (ap (λ m. m.0.hold) e ∙ i.free) (omega (arith, parts, i.alive)),
    )

pub overflow_add-seat : goal.overflow_add-seat
overflow_add-seat g c =
    let e = c.join_seat.ensures.2 in
    let parts : c.join_seat.new.seat.me.0.parts ≡ c.seat.inside.raw.me.0.parts + c.other.inside.raw.me.0.parts = ap (λ m. m.0.parts) e in
    omega (arith, c.load.ensures.2.parts, parts, c.seat.invariant.1, c.other.invariant.1)

pub returns : goal.returns
returns g c =
    let top = c.self.inside.table.shared in
    let raw = c.seat.inside.raw in
    let other = c.other.inside.raw in
    let of = of_inside top.table_id raw.table_id top.key.value raw.me.0 c.args.self.now c.args.seat.now c.self.view_is c.seat.view_is c.requires.seat in
    let new = seat_view_of c.load.new.seat.table_id c.load.new.seat.me.0 in
    as_seen top.table_id raw.table_id top.key.value raw.me.0 c.args.self.now c.args.seat.now c.self.view_is c.seat.view_is
    (λ p s. Absorbs g.V.Verifier.accepts p s c.args.other new)
    (subst (λ o. Absorbs g.V.Verifier.accepts (shared_node top.table_id top.key.value) (seat_view_of raw.table_id raw.me.0) o new) c.other.view_is
    (absorbs g.V.Verifier.accepts top.key.value top.table_id raw.table_id other.table_id c.load.new.seat.table_id raw.me.0 other.me.0 c.join_seat.new.seat.me c.load.new.seat.me of
    (c.load.ensures.0 ∙ c.join_seat.ensures.0) (ap (λ m. m.0) c.join_seat.ensures.2) c.load.ensures.2))
