use Rattle.std.proofs.Common.{◌≡◌, ◌<◌, ◌≤◌, ◌-◌}
use Rattle.hg_model.specs.Prefix.{links_of}
use Rattle.hg_model.specs.Rounds.{round_of, last_round}
use Rattle.hg_fame.specs.Decisions.{IsUndecided}
use Rattle.hg_fame.proofs.electing.elect_within.Given as goal

abbrev pub invariant-loop-round : goal.invariant-loop-round
invariant-loop-round g l = record {
  made : g.V.Votes.MadeFor l.votes (g.P.Prefix.graph l.p);
  candidate : g.V.Votes.candidate l.votes ≡ l.x;
  counted : g.V.Votes.counted l.votes ≡ l.round;
  opened : 0 < l.round;
  above : round_of (g.P.Prefix.graph l.p).members (links_of (g.P.Prefix.graph l.p)) l.x ≤ l.round;
  undecided : IsUndecided (g.P.Prefix.graph l.p) l.len l.x l.round;
}

abbrev pub decreases-loop-round : goal.decreases-loop-round
decreases-loop-round g l = last_round (g.P.Prefix.graph l.p).members (links_of (g.P.Prefix.graph l.p)) - l.round
