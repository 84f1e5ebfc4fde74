use Rattle.std.proofs.Common.{◌≡◌, take}
use Rattle.hg_fame.specs.Decisions.{fame_within, fames_among}
use Rattle.hg_fame.proofs.sharing.elect_first.Given as goal

abbrev pub invariant-loop-x : goal.invariant-loop-x
invariant-loop-x g l = record {
  made : g.V.Votes.MadeFor l.votes (g.P.Prefix.graph l.p);
  found : l.found.items ≡ fames_among (fame_within (g.P.Prefix.graph l.p) l.len) (take l.x-index l.places);
}
