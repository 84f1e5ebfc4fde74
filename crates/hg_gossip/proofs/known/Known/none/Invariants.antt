use Rattle.std.proofs.Common.{◌≡◌, replicate}
use Rattle.hg_gossip.specs.Handing.{none_heard}
use Rattle.hg_gossip.proofs.known.Known.none.Given as goal

abbrev pub invariant-loop : goal.invariant-loop
invariant-loop l = l.by.items ≡ replicate l.counter (replicate l.count none_heard)
