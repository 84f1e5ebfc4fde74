use Rattle.std.proofs.Common.{◌≡◌, None, find, take}
use Rattle.hg_fame.specs.Decisions.{decides_within}
use Rattle.hg_fame.proofs.electing.decision_in.Given as goal

abbrev pub invariant-loop-y : goal.invariant-loop-y
invariant-loop-y g l = find (decides_within (g.P.Prefix.graph l.p) l.len (g.V.Votes.candidate l.votes)) (take l.y-index l.y-items) ≡ None
