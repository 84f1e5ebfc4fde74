use Rattle.std.proofs.Common.{◌≡◌, ◌*◌, ◌+◌, ◌≤◌, length, vec_capacity}
use Rattle.std.specs.Prelude.{IsSome}
use Rattle.hg_journal.specs.Staging.{PutsFront}
use Rattle.hg_journal.proofs.stored.Stored.stage_puts.Given as goal

abbrev pub invariant-loop-event : goal.invariant-loop-event
invariant-loop-event g l = record {
  count : length l.answers.items ≡ l.event-index;
  there : IsSome l.fn.self.node;
  puts : PutsFront g.V.Verifier.accepts l.fn.self.node l.events l.answers.items l.self.node;
  still : IsSome l.self.node;
  written : l.self.written ≡ l.fn.self.written;
  few : l.self.pending ≤ l.fn.self.pending + 1349 * l.event-index;
  room : vec_capacity l.fn.answers ≤ vec_capacity l.answers;
  name : l.self.name ≡ l.fn.self.name;
  gate : l.self.gate ≡ l.fn.self.gate;
}
