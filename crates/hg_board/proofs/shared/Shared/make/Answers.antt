use Rattle.std.proofs.Common.{◌≡◌, ◌∙◌, None}
use Rattle.std.specs.Prelude.{IfOk, OnErr}
use Rattle.hg_life.specs.Calls.{make_draft}
use Rattle.hg_board.specs.Seats.{seat_view_of}
use Rattle.hg_gossip.specs.Holding.{WouldSign}
use Rattle.hg_board.specs.Seats.{seen_by}
use Rattle.hg_board.specs.Calls.{SeatMakes, SeatWaits, Stays}
use Rattle.hg_board.proofs.SeatLaws.{as_seen, failed_at, failed_waits, grown_inside, grown_stays, make_grown, makes, of_inside}
use Rattle.hg_board.proofs.shared.Shared.make.Goals as goal

pub leave_changed-requires-clause-node : goal.leave_changed-requires-clause-node
leave_changed-requires-clause-node g c =
    let top = c.self.inside.table.shared in
    let raw = c.seat.inside.raw in
    grown_inside g.V.Verifier.accepts top.key.value raw.me c.enter-node.new.raw.me c.enter-node.result.0 c.enter-node.result.1 c.enter-node.ensures.seat c.make-answer.new.self
    (make_grown g.V.Verifier.accepts c.enter-node.result.0 c.make-answer.new.self c.args.others.now c.args.time c.args.payload.now c.make-answer.result c.make-answer.ensures.ok c.make-answer.ensures.err)

pub returns-clause-stays : goal.returns-clause-stays
returns-clause-stays g c =
    let top = c.self.inside.table.shared in
    let raw = c.seat.inside.raw in
    let of = of_inside top.table_id raw.table_id top.key.value raw.me.0 c.args.self.now c.args.seat.now c.self.view_is c.seat.view_is c.requires.seat in
    as_seen top.table_id raw.table_id top.key.value raw.me.0 c.args.self.now c.args.seat.now c.self.view_is c.seat.view_is
    (λ p s. Stays g.V.Verifier.accepts p s (seat_view_of c.leave_changed.new.raw.table_id c.leave_changed.new.raw.me.0))
    (grown_stays g.V.Verifier.accepts top.key.value raw.me c.enter-node.new.raw.me c.enter-node.result.0 c.enter-node.result.1 c.enter-node.ensures.seat top.table_id raw.table_id c.leave_changed.new.raw.table_id of (c.leave_changed.ensures.table ∙ c.enter-node.ensures.table) c.leave_changed.new.raw.me c.make-answer.new.self c.leave_changed.ensures.seat
    (make_grown g.V.Verifier.accepts c.enter-node.result.0 c.make-answer.new.self c.args.others.now c.args.time c.args.payload.now c.make-answer.result c.make-answer.ensures.ok c.make-answer.ensures.err) c.leave_changed.ensures.node)

pub returns-clause-ok : goal.returns-clause-ok
returns-clause-ok g c =
    let top = c.self.inside.table.shared in
    let raw = c.seat.inside.raw in
    let of = of_inside top.table_id raw.table_id top.key.value raw.me.0 c.args.self.now c.args.seat.now c.self.view_is c.seat.view_is c.requires.seat in
    as_seen top.table_id raw.table_id top.key.value raw.me.0 c.args.self.now c.args.seat.now c.self.view_is c.seat.view_is
    (λ p s. IfOk c.make-answer.result (SeatMakes g.V.Verifier.accepts p s c.args.others.now c.args.time c.args.payload.now (seat_view_of c.leave_changed.new.raw.table_id c.leave_changed.new.raw.me.0)))
    (makes g.V.Verifier.accepts top.key.value raw.me c.enter-node.new.raw.me c.enter-node.result.0 c.enter-node.result.1 c.enter-node.ensures.seat top.table_id raw.table_id c.leave_changed.new.raw.table_id of (c.leave_changed.ensures.table ∙ c.enter-node.ensures.table) c.leave_changed.new.raw.me c.make-answer.new.self c.leave_changed.ensures.seat
    c.args.others.now c.args.time c.args.payload.now c.make-answer.result c.make-answer.ensures.ok)

pub returns-clause-err : goal.returns-clause-err
returns-clause-err g c =
    let top = c.self.inside.table.shared in
    let raw = c.seat.inside.raw in
    let of = of_inside top.table_id raw.table_id top.key.value raw.me.0 c.args.self.now c.args.seat.now c.self.view_is c.seat.view_is c.requires.seat in
    as_seen top.table_id raw.table_id top.key.value raw.me.0 c.args.self.now c.args.seat.now c.self.view_is c.seat.view_is
    (λ p s. OnErr c.make-answer.result (SeatWaits g.V.Verifier.accepts p s (seat_view_of c.leave_changed.new.raw.table_id c.leave_changed.new.raw.me.0)))
    (failed_waits g.V.Verifier.accepts top.key.value raw.me c.enter-node.new.raw.me c.enter-node.result.0 c.enter-node.result.1 c.enter-node.ensures.seat top.table_id raw.table_id c.leave_changed.new.raw.table_id of (c.leave_changed.ensures.table ∙ c.enter-node.ensures.table) c.leave_changed.new.raw.me c.make-answer.new.self c.leave_changed.ensures.seat
    c.make-answer.result c.make-answer.ensures.err)

pub returns-clause-free : goal.returns-clause-free
returns-clause-free g c =
    let top = c.self.inside.table.shared in
    let raw = c.seat.inside.raw in
    let of = of_inside top.table_id raw.table_id top.key.value raw.me.0 c.args.self.now c.args.seat.now c.self.view_is c.seat.view_is c.requires.seat in
    as_seen top.table_id raw.table_id top.key.value raw.me.0 c.args.self.now c.args.seat.now c.self.view_is c.seat.view_is
    (λ p s. OnErr c.make-answer.result (WouldSign (seen_by p (seat_view_of c.leave_changed.new.raw.table_id c.leave_changed.new.raw.me.0)) c.args.others.now c.args.payload.now))
    (failed_at g.V.Verifier.accepts top.key.value raw.me c.enter-node.new.raw.me c.enter-node.result.0 c.enter-node.result.1 c.enter-node.ensures.seat top.table_id raw.table_id c.leave_changed.new.raw.table_id of (c.leave_changed.ensures.table ∙ c.enter-node.ensures.table) c.leave_changed.new.raw.me c.make-answer.new.self c.leave_changed.ensures.seat
    (λ v. make_draft v c.args.others.now c.args.payload.now ≡ None) c.make-answer.result c.make-answer.ensures.err c.make-answer.ensures.free)
