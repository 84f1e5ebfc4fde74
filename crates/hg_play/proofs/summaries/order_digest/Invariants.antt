use Rattle.std.proofs.Common.{take}
use Rattle.sha2.specs.Hashers.{Holds384}
use Rattle.hg_play.specs.Summaries.{names_in}
use Rattle.hg_play.proofs.summaries.order_digest.Given as goal

abbrev pub invariant-loop-placed : goal.invariant-loop-placed
invariant-loop-placed g l = Holds384 l.hasher (names_in (g.P.Prefix.graph l.p).rows (take l.placed-index l.order))
