use Rattle.std.proofs.Common.{◌≡◌, ◌≤◌, ◌+◌, take}
use Rattle.hg_gossip.specs.Nodes.{taking, taking_of}
use Rattle.hg_gossip.specs.Taking.{bytes_of}
use Rattle.hg_gossip.proofs.taking.take_events.Given as goal

abbrev pub invariant-loop-event : goal.invariant-loop-event
invariant-loop-event g l = record {
  taken : taking_of l.taker l.counts ≡ taking g.V.Verifier.accepts l.initial.taker (take l.event-index (bytes_of l.events));
  few : l.counts.taken + l.counts.refused ≤ l.event-index;
}
