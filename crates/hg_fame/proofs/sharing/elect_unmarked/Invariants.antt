use Rattle.std.proofs.Common.{◌≡◌}
use Rattle.hg_model.specs.Places.{count_below}
use Rattle.hg_model.specs.Prefix.{links_of}
use Rattle.hg_model.specs.Rounds.{is_witness}
use Rattle.hg_fame.proofs.ShareLaws.{found_below}
use Rattle.hg_fame.proofs.sharing.elect_unmarked.Given as goal

abbrev pub invariant-loop-x : goal.invariant-loop-x
invariant-loop-x g l = record {
  made : g.V.Votes.MadeFor l.votes (g.P.Prefix.graph l.p);
  witnesses : l.witnesses ≡ count_below l.x (is_witness (g.P.Prefix.graph l.p).members (links_of (g.P.Prefix.graph l.p)));
  found : l.found.items ≡ found_below (g.P.Prefix.graph l.p) l.share l.x;
}
