use Rattle.std.proofs.Common.{None}
use Rattle.hg_model.specs.Order.{round_received}
use Rattle.hg_model.specs.Prefix.{links_of}
use Rattle.hg_plain_graph.specs.Tables.{IsTableOf}
use Rattle.hg_plain.proofs.received.rounds_received.Given as goal

abbrev pub invariant-loop-x : goal.invariant-loop-x
invariant-loop-x l = IsTableOf None (round_received l.p.members (links_of l.p) l.marks) l.x l.received.items
