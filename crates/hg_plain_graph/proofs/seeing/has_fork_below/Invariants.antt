use Rattle.std.proofs.Common.{◌≡◌, ◌&&◌, false}
use Rattle.hg_model.specs.Places.{some_below}
use Rattle.hg_model.specs.Ancestry.{is_ancestor, some_ancestor}
use Rattle.hg_model.specs.Forks.{is_fork}
use Rattle.hg_plain_graph.proofs.seeing.has_fork_below.Given as goal

abbrev pub invariant-loop-a : goal.invariant-loop-a
invariant-loop-a l = some_below l.a (λ a. is_ancestor l.ancestry l.x a && some_ancestor l.ancestry l.x (is_fork l.ancestry l.member a)) ≡ false
