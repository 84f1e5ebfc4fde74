use Rattle.std.proofs.Common.{◌≡◌, replicate}
use Rattle.hg_gossip.specs.Handing.{none_heard}
use Rattle.hg_gossip.proofs.known.none_heard.Given as goal

abbrev pub invariant-loop : goal.invariant-loop
invariant-loop l = l.of.items ≡ replicate l.counter none_heard
