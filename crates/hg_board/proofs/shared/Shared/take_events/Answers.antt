use Rattle.std.proofs.Common.{◌∙◌, subst, sym}
use Rattle.hg_graph.specs.RowsWithRoom.{rows_of}
use Rattle.hg_board.specs.Seats.{seat_view_of}
use Rattle.hg_board.specs.Taking.{AreSignedFor}
use Rattle.hg_board.proofs.CallLaws.{HasTakenRows, start_inside, takes_at}
use Rattle.hg_board.proofs.SeatLaws.{is_inside, node_inside}
use Rattle.hg_board.proofs.TakingLaws.{inside_still, node_still}
use Rattle.hg_board.proofs.shared.Shared.take_events.Given as given
use Rattle.hg_board.proofs.shared.Shared.take_events.Goals as goal

pub take_each-taken-requires-clause-node : goal.take_each-taken-requires-clause-node
take_each-taken-requires-clause-node g c = node_inside g.V.Verifier.accepts c.self.inside.table.shared.key.value c.seat.inside.raw.me c.enter-node.new.raw.me c.enter-node.result.0 c.enter-node.result.1 c.enter-node.ensures.seat

pub take_each-taken-requires-clause-signed : goal.take_each-taken-requires-clause-signed
take_each-taken-requires-clause-signed g c =
    subst (λ s. AreSignedFor g.V.Verifier.accepts s (rows_of c.args.events.now)) (sym (start_inside g.V.Verifier.accepts c.self.view_is c.seat.view_is c.requires.seat c.enter-node.ensures.seat)) c.requires.signed

pub leave-requires-clause-inside : goal.leave-requires-clause-inside
leave-requires-clause-inside g c =
    inside_still c.enter-node.new.raw.me c.take_each-taken.new.raw.me c.enter-node.result.0 c.take_each-taken.new.node
    (is_inside g.V.Verifier.accepts c.self.inside.table.shared.key.value c.seat.inside.raw.me c.enter-node.new.raw.me c.enter-node.result.0 c.enter-node.result.1 c.enter-node.ensures.seat) c.take_each-taken.ensures.adds

pub leave-requires-clause-node : goal.leave-requires-clause-node
leave-requires-clause-node g c =
    node_still c.self.inside.table.shared.key.value c.enter-node.new.raw.me c.take_each-taken.new.raw.me c.enter-node.result.0 c.take_each-taken.new.node
    (node_inside g.V.Verifier.accepts c.self.inside.table.shared.key.value c.seat.inside.raw.me c.enter-node.new.raw.me c.enter-node.result.0 c.enter-node.result.1 c.enter-node.ensures.seat) c.take_each-taken.ensures.adds

-- all that the call left
left : (g : given.Over) (c : goal.After-leave g) → HasTakenRows g.V.Verifier.accepts c.args.self.now c.args.seat.now (seat_view_of c.leave.new.raw.table_id c.leave.new.raw.me.0) (rows_of c.args.events.now) c.take_each-taken.result
left g c =
    takes_at g.V.Verifier.accepts c.self.view_is c.seat.view_is c.requires.seat c.enter-node.ensures.seat (c.leave.ensures.table ∙ (c.take_each-taken.ensures.table ∙ c.enter-node.ensures.table)) (rows_of c.args.events.now)
    c.take_each-taken.result c.take_each-taken.ensures.adds c.leave.ensures.seat c.is_node.ensures c.take_each-taken.ensures.ok c.take_each-taken.ensures.err

pub returns-clause-stays : goal.returns-clause-stays
returns-clause-stays g c = (left g c).stays

pub returns-clause-ok : goal.returns-clause-ok
returns-clause-ok g c = (left g c).ok

pub returns-clause-err : goal.returns-clause-err
returns-clause-err g c = (left g c).err
