use Rattle.std.proofs.Common.{rules, ◌≡◌, ℕ, ◌<◌, ◌++◌, ◌∷◌, [], length, sym, subst, arith}
use Rattle.std.specs.Prelude.{get_or}
use Rattle.hg_journal.specs.Staging.{PutsFront}
use Rattle.hg_journal.proofs.PutLaws.{puts_more, puts_none}
use Rattle.hg_journal.proofs.stored.Stored.stage_puts.Goals as goal

pub loop-event-init : goal.loop-event-init
loop-event-init g c = record {
  count = search rules;
  there = search rules;
  puts = puts_none g.V.Verifier.accepts c.args.self.now.node c.args.events.now c.clear.new.self.items (search rules);
  still = search rules;
  written = search rules;
  few = omega arith;
  room = search rules;
  name = search rules;
  gate = search rules;
}

pub returns-in_err-answer-clause-puts : goal.returns-in_err-answer-clause-puts
returns-in_err-answer-clause-puts g c =
    subst (λ s. PutsFront g.V.Verifier.accepts c.args.self.now.node c.args.events.now c.loop-event.answers.items s.node) (sym c.in_err-answer.ensures.memory) c.loop-event.invariant.puts

pub loop-event-preserved : goal.loop-event-preserved
loop-event-preserved g c =
    let accepts = g.V.Verifier.accepts in
    let now = c.loop-event in
    let events = c.args.events.now in
    let bytes = c.as_slice.result.now in
    let at : bytes ≡ get_or events now.event-index bytes = rw c.as_slice.ensures c.event-item.is in
    let within : now.event-index < length events = search rules in
    let items : c.push.new.self.items ≡ now.answers.items ++ c.in_ok-answer.answer ∷ [] = search rules in
    let front = puts_more accepts c.args.self.now.node now.self.node c.stage_put.new.self.node events bytes now.answers.items c.in_ok-answer.answer
    (omega (arith, within, now.invariant.count)) (subst (λ (n : ℕ). bytes ≡ get_or events n bytes) (sym now.invariant.count) at) now.invariant.puts
    (λ v is. (c.in_ok-answer.ensures.answer v is, c.in_ok-answer.ensures.ok v is)) in
    record {
      count = search (rules, arith);
      there = now.invariant.there;
      puts = subst (λ l. PutsFront accepts c.args.self.now.node events l c.stage_put.new.self.node) (sym items) front;
      still = search rules;
      written = search rules;
      few = omega (arith, c.stage_put.ensures.frame.few, now.invariant.few);
      room = search rules;
      name = search rules;
      gate = search rules;
    }
