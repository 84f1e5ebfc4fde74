use Rattle.std.proofs.Common.{false}
use Rattle.hg_model.specs.Fame.{is_closed}
use Rattle.hg_plain_graph.specs.Tables.{IsTableOf}
use Rattle.hg_plain_graph.proofs.closed.closed_rounds.Given as goal

abbrev pub invariant-loop-r : goal.invariant-loop-r
invariant-loop-r l = IsTableOf false (is_closed l.sight.members l.sight.links l.marks) l.r l.closed.items
