use Rattle.std.proofs.Common.{◌∙◌}
use Rattle.hg_board.specs.Seats.{seat_view_of}
use Rattle.hg_board.specs.Calls.{SeatPublishes, Stays}
use Rattle.hg_board.proofs.SeatLaws.{as_seen, found_inside, found_seen, grown_inside, grown_stays, of_inside, publish_grown, publishes}
use Rattle.hg_board.proofs.shared.Shared.publish.Goals as goal

pub publish-marked-requires : goal.publish-marked-requires
publish-marked-requires g c =
    let top = c.self.inside.table.shared in
    let raw = c.seat.inside.raw in
    found_inside g.V.Verifier.accepts top.key.value raw.me c.enter-node.new.raw.me c.enter-node.result.0 c.enter-node.result.1 c.enter-node.ensures.seat c.args.found.now
    (found_seen top.table_id raw.table_id top.key.value raw.me.0 c.args.self.now c.args.seat.now c.self.view_is c.seat.view_is c.args.found.now c.requires.found)

pub leave_changed-requires-clause-node : goal.leave_changed-requires-clause-node
leave_changed-requires-clause-node g c =
    let top = c.self.inside.table.shared in
    let raw = c.seat.inside.raw in
    grown_inside g.V.Verifier.accepts top.key.value raw.me c.enter-node.new.raw.me c.enter-node.result.0 c.enter-node.result.1 c.enter-node.ensures.seat c.publish-marked.new.self
    (publish_grown g.V.Verifier.accepts c.enter-node.result.0 c.publish-marked.new.self c.args.found.now.len c.args.found.now.share c.publish-marked.ensures.grown)

pub returns-clause-stays : goal.returns-clause-stays
returns-clause-stays g c =
    let top = c.self.inside.table.shared in
    let raw = c.seat.inside.raw in
    let of = of_inside top.table_id raw.table_id top.key.value raw.me.0 c.args.self.now c.args.seat.now c.self.view_is c.seat.view_is c.requires.seat in
    as_seen top.table_id raw.table_id top.key.value raw.me.0 c.args.self.now c.args.seat.now c.self.view_is c.seat.view_is
    (λ p s. Stays g.V.Verifier.accepts p s (seat_view_of c.leave_changed.new.raw.table_id c.leave_changed.new.raw.me.0))
    (grown_stays g.V.Verifier.accepts top.key.value raw.me c.enter-node.new.raw.me c.enter-node.result.0 c.enter-node.result.1 c.enter-node.ensures.seat top.table_id raw.table_id c.leave_changed.new.raw.table_id of (c.leave_changed.ensures.table ∙ c.enter-node.ensures.table) c.leave_changed.new.raw.me c.publish-marked.new.self c.leave_changed.ensures.seat
    (publish_grown g.V.Verifier.accepts c.enter-node.result.0 c.publish-marked.new.self c.args.found.now.len c.args.found.now.share c.publish-marked.ensures.grown) c.leave_changed.ensures.node)

pub returns-clause-marks : goal.returns-clause-marks
returns-clause-marks g c =
    let top = c.self.inside.table.shared in
    let raw = c.seat.inside.raw in
    let of = of_inside top.table_id raw.table_id top.key.value raw.me.0 c.args.self.now c.args.seat.now c.self.view_is c.seat.view_is c.requires.seat in
    as_seen top.table_id raw.table_id top.key.value raw.me.0 c.args.self.now c.args.seat.now c.self.view_is c.seat.view_is
    (λ p s. SeatPublishes g.V.Verifier.accepts p s c.args.found.now.len c.args.found.now.share (seat_view_of c.leave_changed.new.raw.table_id c.leave_changed.new.raw.me.0) c.publish-marked.result)
    (publishes g.V.Verifier.accepts top.key.value raw.me c.enter-node.new.raw.me c.enter-node.result.0 c.enter-node.result.1 c.enter-node.ensures.seat top.table_id raw.table_id c.leave_changed.new.raw.table_id of (c.leave_changed.ensures.table ∙ c.enter-node.ensures.table) c.leave_changed.new.raw.me c.publish-marked.new.self c.leave_changed.ensures.seat
    c.args.found.now.len c.args.found.now.share c.publish-marked.result c.publish-marked.ensures.answer c.publish-marked.ensures.grown)
