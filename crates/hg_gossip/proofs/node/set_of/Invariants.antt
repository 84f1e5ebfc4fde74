use Rattle.std.proofs.Common.{take}
use Rattle.hg_gossip.specs.Holding.{HaveSame}
use Rattle.hg_gossip.proofs.node.set_of.Given as goal

abbrev pub invariant-loop-name : goal.invariant-loop-name
invariant-loop-name l = HaveSame l.set.keys (take l.name-index l.names)
