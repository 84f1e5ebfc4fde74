use Rattle.std.proofs.Common.{◌≡◌, ◌≤◌, ◌+◌, take}
use Rattle.hg_gossip.specs.Gossip.{TakesAll}
use Rattle.hg_gossip.proofs.taking.take.Given as goal

abbrev pub invariant-loop-event : goal.invariant-loop-event
invariant-loop-event g l = record {
  taken : TakesAll g.H.Holder.rules (g.H.Holder.seen l.initial.taker) (take l.event-index l.events) (g.H.Holder.seen l.taker) l.counts;
  lent : g.H.Holder.lent l.taker ≡ g.H.Holder.lent l.initial.taker;
  few : l.counts.taken + l.counts.refused ≤ l.event-index;
}
