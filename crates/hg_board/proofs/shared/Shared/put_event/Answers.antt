use Rattle.std.proofs.Common.{◌≡◌, ◌<◌, ◌∙◌, true, subst, sym}
use Rattle.hg_life.specs.Spelling.{spelling}
use Rattle.hg_model.specs.Stakes.{member_count}
use Rattle.hg_node.specs.Puts.{is_signed}
use Rattle.hg_board.specs.Seats.{seat_view_of}
use Rattle.hg_board.proofs.CallLaws.{HasPut, puts_at, start_inside}
use Rattle.hg_board.proofs.SeatLaws.{grown_inside, put_grown}
use Rattle.hg_board.proofs.shared.Shared.put_event.Given as given
use Rattle.hg_board.proofs.shared.Shared.put_event.Goals as goal

pub put_event-answer-requires-clause-fits : goal.put_event-answer-requires-clause-fits
put_event-answer-requires-clause-fits g c =
    subst (λ s. c.args.event.now.value.creator < member_count s.members) (sym (start_inside g.V.Verifier.accepts c.self.view_is c.seat.view_is c.requires.seat c.enter-node.ensures.seat)) c.requires.fits

pub put_event-answer-requires-clause-signed : goal.put_event-answer-requires-clause-signed
put_event-answer-requires-clause-signed g c =
    subst (λ s. is_signed g.V.Verifier.accepts s c.args.event.now.value ≡ true) (sym (start_inside g.V.Verifier.accepts c.self.view_is c.seat.view_is c.requires.seat c.enter-node.ensures.seat)) c.requires.signed

pub leave_changed-requires-clause-node : goal.leave_changed-requires-clause-node
leave_changed-requires-clause-node g c =
    grown_inside g.V.Verifier.accepts c.self.inside.table.shared.key.value c.seat.inside.raw.me c.enter-node.new.raw.me c.enter-node.result.0 c.enter-node.result.1 c.enter-node.ensures.seat c.put_event-answer.new.self
    (put_grown g.V.Verifier.accepts c.enter-node.result.0 c.put_event-answer.new.self (spelling c.args.event.now.value) c.put_event-answer.result c.put_event-answer.ensures.ok c.put_event-answer.ensures.err)

-- all that the call left
left : (g : given.Over) (c : goal.After-leave_changed g) → HasPut g.V.Verifier.accepts c.args.self.now c.args.seat.now (seat_view_of c.leave_changed.new.raw.table_id c.leave_changed.new.raw.me.0) (spelling c.args.event.now.value) c.put_event-answer.result
left g c =
    puts_at g.V.Verifier.accepts c.self.view_is c.seat.view_is c.requires.seat c.enter-node.ensures.seat (c.leave_changed.ensures.table ∙ c.enter-node.ensures.table) c.put_event-answer.new.self (spelling c.args.event.now.value)
    c.put_event-answer.result c.leave_changed.ensures.seat c.leave_changed.ensures.node c.put_event-answer.ensures.answer c.put_event-answer.ensures.ok c.put_event-answer.ensures.err c.put_event-answer.ensures.free

pub returns-clause-stays : goal.returns-clause-stays
returns-clause-stays g c = (left g c).stays

pub returns-clause-ok : goal.returns-clause-ok
returns-clause-ok g c = (left g c).ok

pub returns-clause-err : goal.returns-clause-err
returns-clause-err g c = (left g c).err

pub returns-clause-free : goal.returns-clause-free
returns-clause-free g c = (left g c).free
