use Rattle.std.proofs.Common.{List, ℕ, subst}
use Rattle.std.specs.Prelude.{IfOk, OnErr}
use Rattle.hg_board.specs.Calls.{SeatPuts, SeatWaits}
use Rattle.hg_storm.proofs.FateLaws.{fates_one}
use Rattle.hg_storm.proofs.KeepLaws.{waiting_keeps}
use Rattle.hg_storm.proofs.MadeLaws.{came_below, no_row_self, none_made, put_makes_none, waits_none}
use Rattle.hg_storm.proofs.taking.take_one.Goals as goal

pub returns-clause-fates : goal.returns-clause-fates
returns-clause-fates g c =
    let p = c.args.shared.now in
    let old = c.args.seat.now in
    let new = c.put_at-answer.new.seat in
    let accepts = g.V.Verifier.accepts in
    let puts = subst (λ r. IfOk r (SeatPuts accepts p old c.as_slice.result.now new)) c.in_ok-answer.was c.put_at-answer.ensures.ok in
    let message_puts = subst (λ (bytes : List ℕ). SeatPuts accepts p old bytes new c.in_ok-answer.field-0) c.as_slice.ensures puts in
    rw (c.note.ensures.taken, c.note.ensures.refused, c.in_ok-reserve.ensures.items, c.in_ok-reserve-2.ensures.items)
    (fates_one accepts p old new c.args.intake.now.taken.items c.args.intake.now.refused.items c.args.message c.requires.fates c.put_at-answer.ensures.stays.seen c.in_ok-answer.field-0
    c.put_at-answer.result.1 c.put_at-answer.ensures.len message_puts)

pub returns-clause-made : goal.returns-clause-made
returns-clause-made g c =
    let p = c.args.shared.now in
    let old = c.args.seat.now in
    let new = c.put_at-answer.new.seat in
    let accepts = g.V.Verifier.accepts in
    let puts = subst (λ r. IfOk r (SeatPuts accepts p old c.as_slice.result.now new)) c.in_ok-answer.was c.put_at-answer.ensures.ok in
    put_makes_none old new (came_below old.seen c.args.intake.now.taken.items old.mine c.requires.fates.came) accepts p c.as_slice.result.now c.in_ok-answer.field-0 puts

pub returns-in_err-reserve-clause-made : goal.returns-in_err-reserve-clause-made
returns-in_err-reserve-clause-made g c = no_row_self c.args.seat.now

pub returns-in_err-reserve-2-clause-made : goal.returns-in_err-reserve-2-clause-made
returns-in_err-reserve-2-clause-made g c = no_row_self c.args.seat.now

pub returns-in_err-answer-clause-made : goal.returns-in_err-answer-clause-made
returns-in_err-answer-clause-made g c =
    let p = c.args.shared.now in
    let old = c.args.seat.now in
    let new = c.put_at-answer.new.seat in
    let accepts = g.V.Verifier.accepts in
    let waits = subst (λ r. OnErr r (SeatWaits accepts p old new)) c.in_err-answer.was c.put_at-answer.ensures.err in
    none_made old new (came_below old.seen c.args.intake.now.taken.items old.mine c.requires.fates.came) (waits_none accepts p old new waits)

pub returns-in_err-answer-clause-fates : goal.returns-in_err-answer-clause-fates
returns-in_err-answer-clause-fates g c =
    let p = c.args.shared.now in
    let old = c.args.seat.now in
    let new = c.put_at-answer.new.seat in
    let accepts = g.V.Verifier.accepts in
    let waits = subst (λ r. OnErr r (SeatWaits accepts p old new)) c.in_err-answer.was c.put_at-answer.ensures.err in
    rw (c.in_ok-reserve.ensures.items, c.in_ok-reserve-2.ensures.items)
    (waiting_keeps _ accepts p old new waits c.args.intake.now.taken.items c.args.intake.now.refused.items c.requires.fates)
