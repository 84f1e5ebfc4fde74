use Rattle.std.proofs.Common.{◌<◌, ◌∙◌, ℕ, List, ap, length, take, arith}
use Rattle.std.proofs.lemmas.List.{take_all}
use Rattle.hg_life.specs.Spelling.{spelling}
use Rattle.hg_gossip.specs.Nodes.{taking}
use Rattle.hg_gossip.specs.Taking.{bytes_of}
use Rattle.hg_gossip.proofs.TakeLaws.{errs, few_more}
use Rattle.hg_gossip.proofs.TakingLaws.{bytes_at, bytes_length, signed_at, takes_one, took_first}
use Rattle.hg_gossip.proofs.taking.take_events.Goals as goal

pub put_event-requires-clause-fits : goal.put_event-requires-clause-fits
put_event-requires-clause-fits g c =
    (signed_at g.V.Verifier.accepts c.args.taker.now c.loop-event.taker c.args.events.now c.loop-event.event-index c.event-item.result (take c.loop-event.event-index (bytes_of c.args.events.now)) c.loop-event.counts
    c.requires (omega arith) c.event-item.is c.loop-event.invariant.taken).fits

pub put_event-requires-clause-signed : goal.put_event-requires-clause-signed
put_event-requires-clause-signed g c =
    (signed_at g.V.Verifier.accepts c.args.taker.now c.loop-event.taker c.args.events.now c.loop-event.event-index c.event-item.result (take c.loop-event.event-index (bytes_of c.args.events.now)) c.loop-event.counts
    c.requires (omega arith) c.event-item.is c.loop-event.invariant.taken).signed

pub returns-in_err-answer-clause-err : goal.returns-in_err-answer-clause-err
returns-in_err-answer-clause-err g c =
    let low : c.loop-event.event-index < length c.args.events.now = omega arith in
    errs c.from_residual.result _
    (took_first g.V.Verifier.accepts c.args.taker.now c.loop-event.taker c.put_event.new.self (bytes_of c.args.events.now) c.loop-event.event-index (spelling c.event-item.result.value) c.loop-event.counts
    (omega (arith, low, bytes_length c.args.events.now)) (bytes_at c.args.events.now c.loop-event.event-index c.event-item.result low c.event-item.is) c.loop-event.invariant.taken c.in_err-answer.ensures.err c.in_err-answer.ensures.free)

pub loop-event-preserved : goal.loop-event-preserved
loop-event-preserved g c =
    let low : c.loop-event.event-index < length c.args.events.now = omega arith in
    record {
      taken =
          takes_one g.V.Verifier.accepts c.args.taker.now c.loop-event.taker c.put_event.new.self (bytes_of c.args.events.now) c.loop-event.event-index (spelling c.event-item.result.value) c.loop-event.counts c.with_answer-counts.result c.in_ok-answer.answer
          (omega (arith, low, bytes_length c.args.events.now)) (bytes_at c.args.events.now c.loop-event.event-index c.event-item.result low c.event-item.is) c.loop-event.invariant.taken c.in_ok-answer.ensures.answer c.in_ok-answer.ensures.ok c.with_answer-counts.ensures;
      few = few_more c.loop-event.counts c.with_answer-counts.result c.in_ok-answer.answer c.loop-event.event-index c.with_answer-counts.ensures c.loop-event.invariant.few;
    }

pub returns-clause-ok : goal.returns-clause-ok
returns-clause-ok g c =
    c.loop-event.invariant.taken
    ∙ ap (λ (events : List (List ℕ)). taking g.V.Verifier.accepts c.args.taker.now events) (take_all c.loop-event.event-index (bytes_of c.args.events.now) (omega (arith, bytes_length c.args.events.now)))
