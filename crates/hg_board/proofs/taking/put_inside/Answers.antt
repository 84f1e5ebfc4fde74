use Rattle.std.proofs.Common.{arith, ap, length, subst}
use Rattle.hg_life.specs.Spelling.{spelling}
use Rattle.hg_board.specs.Turns.{IsGrown}
use Rattle.hg_board.proofs.SeatLaws.{put_grown}
use Rattle.hg_board.proofs.TakingLaws.{adds_grown}
use Rattle.hg_board.proofs.taking.put_inside.Goals as goal

pub put_event-answer-requires-clause-fits : goal.put_event-answer-requires-clause-fits
put_event-answer-requires-clause-fits g c = c.requires.signed.fits

pub put_event-answer-requires-clause-signed : goal.put_event-answer-requires-clause-signed
put_event-answer-requires-clause-signed g c = c.requires.signed.signed

pub raise_if_changed-requires-clause-count : goal.raise_if_changed-requires-clause-count
raise_if_changed-requires-clause-count g c = omega (arith, c.changes-count.ensures, ap (λ v. length v.history) c.requires.node)

pub raise_if_changed-requires-clause-node : goal.raise_if_changed-requires-clause-node
raise_if_changed-requires-clause-node g c =
    subst (λ v. IsGrown v c.put_event-answer.new.self) c.requires.node
    (put_grown g.V.Verifier.accepts c.args.node.now c.put_event-answer.new.self (spelling c.args.event.now.value) c.put_event-answer.result c.put_event-answer.ensures.ok c.put_event-answer.ensures.err)

pub returns-clause-adds : goal.returns-clause-adds
returns-clause-adds g c =
    adds_grown c.args.board.now.key.value c.args.raw.now.me c.raise_if_changed.new.raw.me c.args.node.now c.put_event-answer.new.self c.requires.node
    (put_grown g.V.Verifier.accepts c.args.node.now c.put_event-answer.new.self (spelling c.args.event.now.value) c.put_event-answer.result c.put_event-answer.ensures.ok c.put_event-answer.ensures.err)
    c.raise_if_changed.ensures.seat
