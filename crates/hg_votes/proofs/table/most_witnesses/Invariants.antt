use Rattle.hg_votes.specs.Counting.{HasMost}
use Rattle.hg_votes.proofs.table.most_witnesses.Given as goal

abbrev pub invariant-loop-y : goal.invariant-loop-y
invariant-loop-y g l = HasMost (g.P.Prefix.graph l.p) l.from l.y l.most
