use Rattle.std.proofs.Common.{◌≡◌, ◌-◌, ◌<◌}
use Rattle.hg_model.specs.Prefix.{links_of}
use Rattle.hg_model.specs.Rounds.{last_round}
use Rattle.hg_votes.specs.Counting.{IsMadeFor}
use Rattle.hg_votes.proofs.table.VoteTableVotes.fill.Given as goal

abbrev pub invariant-loop-self : goal.invariant-loop-self
invariant-loop-self g l = record {
  made : IsMadeFor l.self (g.P.Prefix.graph l.p);
  candidate : l.self.candidate ≡ l.x;
  opened : 0 < l.self.counted;
}

abbrev pub decreases-loop-self : goal.decreases-loop-self
decreases-loop-self g l = last_round (g.P.Prefix.graph l.p).members (links_of (g.P.Prefix.graph l.p)) - l.self.counted
