use Rattle.std.proofs.Common.{◌∙◌, arith}
use Rattle.hg_gossip.proofs.TakeLaws.{errs, few_more, takes_first, takes_next}
use Rattle.hg_gossip.proofs.taking.take.Goals as goal

pub returns-in_err-answer-clause-err : goal.returns-in_err-answer-clause-err
returns-in_err-answer-clause-err g c =
    errs c.from_residual.result _
    (takes_first g.H.Holder.rules c.args.events.now c.loop-event.event-index c.event-item.result c.as_slice.result.now (g.H.Holder.seen c.args.taker.now) (g.H.Holder.seen c.loop-event.taker) (g.H.Holder.seen c.put.new.self) c.loop-event.counts
    (omega arith) c.event-item.is c.as_slice.ensures c.loop-event.invariant.taken c.in_err-answer.ensures.err c.in_err-answer.ensures.free)

pub loop-event-preserved : goal.loop-event-preserved
loop-event-preserved g c = record {
  taken =
      takes_next g.H.Holder.rules c.args.events.now c.loop-event.event-index c.event-item.result c.as_slice.result.now (g.H.Holder.seen c.args.taker.now) (g.H.Holder.seen c.loop-event.taker) (g.H.Holder.seen c.put.new.self) c.loop-event.counts c.with_answer-counts.result c.in_ok-answer.answer
      (omega arith) c.event-item.is c.as_slice.ensures c.with_answer-counts.ensures c.loop-event.invariant.taken c.in_ok-answer.ensures.ok;
  lent = c.put.ensures.lent ∙ c.loop-event.invariant.lent;
  few = few_more c.loop-event.counts c.with_answer-counts.result c.in_ok-answer.answer c.loop-event.event-index c.with_answer-counts.ensures c.loop-event.invariant.few;
}
