use Rattle.std.proofs.Common.{◌∙◌, length, sym}
use Rattle.hg_board.specs.Seats.{seat_view_of}
use Rattle.hg_board.proofs.CallLaws.{HasPut, puts_at}
use Rattle.hg_board.proofs.SeatLaws.{grown_inside, put_grown}
use Rattle.hg_board.proofs.shared.Shared.put_at.Given as given
use Rattle.hg_board.proofs.shared.Shared.put_at.Goals as goal

pub leave_changed-requires-clause-node : goal.leave_changed-requires-clause-node
leave_changed-requires-clause-node g c =
    grown_inside g.V.Verifier.accepts c.self.inside.table.shared.key.value c.seat.inside.raw.me c.enter-node.new.raw.me c.enter-node.result.0 c.enter-node.result.1 c.enter-node.ensures.seat c.put-answer.new.self
    (put_grown g.V.Verifier.accepts c.enter-node.result.0 c.put-answer.new.self c.args.bytes.now c.put-answer.result c.put-answer.ensures.ok c.put-answer.ensures.err)

-- all that the call left
left : (g : given.Over) (c : goal.After-leave_changed g) → HasPut g.V.Verifier.accepts c.args.self.now c.args.seat.now (seat_view_of c.leave_changed.new.raw.table_id c.leave_changed.new.raw.me.0) c.args.bytes.now c.put-answer.result
left g c =
    puts_at g.V.Verifier.accepts c.self.view_is c.seat.view_is c.requires c.enter-node.ensures.seat (c.leave_changed.ensures.table ∙ c.enter-node.ensures.table) c.put-answer.new.self c.args.bytes.now
    c.put-answer.result c.leave_changed.ensures.seat c.leave_changed.ensures.node c.put-answer.ensures.answer c.put-answer.ensures.ok c.put-answer.ensures.err c.put-answer.ensures.free

pub returns-clause-stays : goal.returns-clause-stays
returns-clause-stays g c = (left g c).stays

pub returns-clause-ok : goal.returns-clause-ok
returns-clause-ok g c = (left g c).ok

pub returns-clause-err : goal.returns-clause-err
returns-clause-err g c = (left g c).err

pub returns-clause-free : goal.returns-clause-free
returns-clause-free g c = (left g c).free

pub returns-clause-len : goal.returns-clause-len
returns-clause-len g c = c.changes-len.ensures ∙ (λ i. length (sym c.leave_changed.ensures.seat i).0.seen)
