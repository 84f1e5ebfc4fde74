use Rattle.hg_model.specs.Prefix.{ballot_of}
use Rattle.hg_votes.specs.Tallies.{no_ballot}
use Rattle.hg_plain_graph.specs.Tables.{IsTableOf}
use Rattle.hg_plain.proofs.votes.ballots.Given as goal

abbrev pub invariant-loop-y : goal.invariant-loop-y
invariant-loop-y l = IsTableOf no_ballot (ballot_of l.p l.x) l.y l.ballots.items
