use Rattle.std.proofs.Common.{◌≡◌}
use Rattle.hg_model.specs.Places.{count_below}
use Rattle.hg_model.specs.Links.{links}
use Rattle.hg_model.specs.Forks.{has_fork}
use Rattle.hg_plain_graph.proofs.forks.plain_forkers.Given as goal

abbrev pub invariant-loop-member : goal.invariant-loop-member
invariant-loop-member l = l.count ≡ count_below l.member (has_fork (links l.rows))
