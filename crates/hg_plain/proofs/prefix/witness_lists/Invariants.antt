use Rattle.std.proofs.Common.{[]}
use Rattle.hg_plain_graph.specs.Tables.{IsTableOf}
use Rattle.hg_plain.specs.Held.{witnesses_of}
use Rattle.hg_plain.proofs.prefix.witness_lists.Given as goal

abbrev pub invariant-loop-r : goal.invariant-loop-r
invariant-loop-r l = IsTableOf [] (witnesses_of l.sight.members l.sight.links) l.r l.lists.items
