use Rattle.std.proofs.Common.{◌∙◌}
use Rattle.std.specs.Prelude.{IfOk, IsSome, OnErr}
use Rattle.hg_node.specs.Next.{next_others}
use Rattle.hg_board.specs.Seats.{seat_view_of, seen_by}
use Rattle.hg_board.specs.Calls.{SeatMakesNext, SeatWaits, Stays}
use Rattle.hg_board.proofs.SeatLaws.{as_seen, failed_at, failed_waits, grown_inside, grown_stays, makes_next, next_grown, of_inside}
use Rattle.hg_board.proofs.shared.Shared.make_next.Goals as goal

pub leave_changed-requires-clause-node : goal.leave_changed-requires-clause-node
leave_changed-requires-clause-node g c =
    grown_inside g.V.Verifier.accepts c.self.inside.table.shared.key.value c.seat.inside.raw.me c.enter-node.new.raw.me c.enter-node.result.0 c.enter-node.result.1 c.enter-node.ensures.seat c.make_next-made.new.self
    (next_grown g.V.Verifier.accepts c.enter-node.result.0 c.make_next-made.new.self c.args.time c.make_next-made.result c.make_next-made.ensures.ok c.make_next-made.ensures.err)

pub returns-clause-stays : goal.returns-clause-stays
returns-clause-stays g c =
    let top = c.self.inside.table.shared in
    let raw = c.seat.inside.raw in
    let of = of_inside top.table_id raw.table_id top.key.value raw.me.0 c.args.self.now c.args.seat.now c.self.view_is c.seat.view_is c.requires in
    as_seen top.table_id raw.table_id top.key.value raw.me.0 c.args.self.now c.args.seat.now c.self.view_is c.seat.view_is
    (λ p s. Stays g.V.Verifier.accepts p s (seat_view_of c.leave_changed.new.raw.table_id c.leave_changed.new.raw.me.0))
    (grown_stays g.V.Verifier.accepts top.key.value raw.me c.enter-node.new.raw.me c.enter-node.result.0 c.enter-node.result.1 c.enter-node.ensures.seat top.table_id raw.table_id c.leave_changed.new.raw.table_id of (c.leave_changed.ensures.table ∙ c.enter-node.ensures.table) c.leave_changed.new.raw.me c.make_next-made.new.self c.leave_changed.ensures.seat
    (next_grown g.V.Verifier.accepts c.enter-node.result.0 c.make_next-made.new.self c.args.time c.make_next-made.result c.make_next-made.ensures.ok c.make_next-made.ensures.err) c.leave_changed.ensures.node)

pub returns-clause-ok : goal.returns-clause-ok
returns-clause-ok g c =
    let top = c.self.inside.table.shared in
    let raw = c.seat.inside.raw in
    let of = of_inside top.table_id raw.table_id top.key.value raw.me.0 c.args.self.now c.args.seat.now c.self.view_is c.seat.view_is c.requires in
    as_seen top.table_id raw.table_id top.key.value raw.me.0 c.args.self.now c.args.seat.now c.self.view_is c.seat.view_is
    (λ p s. IfOk c.make_next-made.result (SeatMakesNext g.V.Verifier.accepts p s c.args.time (seat_view_of c.leave_changed.new.raw.table_id c.leave_changed.new.raw.me.0)))
    (makes_next g.V.Verifier.accepts top.key.value raw.me c.enter-node.new.raw.me c.enter-node.result.0 c.enter-node.result.1 c.enter-node.ensures.seat top.table_id raw.table_id c.leave_changed.new.raw.table_id of (c.leave_changed.ensures.table ∙ c.enter-node.ensures.table) c.leave_changed.new.raw.me c.make_next-made.new.self c.leave_changed.ensures.seat
    c.args.time c.make_next-made.result c.make_next-made.ensures.ok)

pub returns-clause-err : goal.returns-clause-err
returns-clause-err g c =
    let top = c.self.inside.table.shared in
    let raw = c.seat.inside.raw in
    let of = of_inside top.table_id raw.table_id top.key.value raw.me.0 c.args.self.now c.args.seat.now c.self.view_is c.seat.view_is c.requires in
    as_seen top.table_id raw.table_id top.key.value raw.me.0 c.args.self.now c.args.seat.now c.self.view_is c.seat.view_is
    (λ p s. OnErr c.make_next-made.result (SeatWaits g.V.Verifier.accepts p s (seat_view_of c.leave_changed.new.raw.table_id c.leave_changed.new.raw.me.0)))
    (failed_waits g.V.Verifier.accepts top.key.value raw.me c.enter-node.new.raw.me c.enter-node.result.0 c.enter-node.result.1 c.enter-node.ensures.seat top.table_id raw.table_id c.leave_changed.new.raw.table_id of (c.leave_changed.ensures.table ∙ c.enter-node.ensures.table) c.leave_changed.new.raw.me c.make_next-made.new.self c.leave_changed.ensures.seat
    c.make_next-made.result c.make_next-made.ensures.err)

pub returns-clause-free : goal.returns-clause-free
returns-clause-free g c =
    let top = c.self.inside.table.shared in
    let raw = c.seat.inside.raw in
    let of = of_inside top.table_id raw.table_id top.key.value raw.me.0 c.args.self.now c.args.seat.now c.self.view_is c.seat.view_is c.requires in
    as_seen top.table_id raw.table_id top.key.value raw.me.0 c.args.self.now c.args.seat.now c.self.view_is c.seat.view_is
    (λ p s. OnErr c.make_next-made.result (IsSome (next_others (seen_by p (seat_view_of c.leave_changed.new.raw.table_id c.leave_changed.new.raw.me.0)).node)))
    (failed_at g.V.Verifier.accepts top.key.value raw.me c.enter-node.new.raw.me c.enter-node.result.0 c.enter-node.result.1 c.enter-node.ensures.seat top.table_id raw.table_id c.leave_changed.new.raw.table_id of (c.leave_changed.ensures.table ∙ c.enter-node.ensures.table) c.leave_changed.new.raw.me c.make_next-made.new.self c.leave_changed.ensures.seat
    (λ v. IsSome (next_others v)) c.make_next-made.result c.make_next-made.ensures.err c.make_next-made.ensures.free)
