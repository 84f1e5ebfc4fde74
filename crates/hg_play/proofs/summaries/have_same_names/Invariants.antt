use Rattle.std.proofs.Common.{◌≡◌, take}
use Rattle.hg_play.specs.Summaries.{names_in}
use Rattle.hg_play.proofs.summaries.have_same_names.Given as goal

abbrev pub invariant-loop-i : goal.invariant-loop-i
invariant-loop-i g l = names_in (g.P.Prefix.graph l.p).rows (take l.i l.order) ≡ names_in (g.P.Prefix.graph l.q).rows (take l.i l.others)
