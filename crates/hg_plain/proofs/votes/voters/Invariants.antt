use Rattle.std.proofs.Common.{[]}
use Rattle.hg_votes.specs.Tallies.{voters_of}
use Rattle.hg_plain_graph.specs.Tables.{IsTableOf}
use Rattle.hg_plain.proofs.votes.voters.Given as goal

abbrev pub invariant-loop-y : goal.invariant-loop-y
invariant-loop-y l = IsTableOf [] (voters_of l.p) l.y l.voters.items
