use Rattle.std.proofs.Common.{◌≡◌, ◌&&◌, false}
use Rattle.hg_model.specs.Places.{some_below}
use Rattle.hg_model.specs.Ancestry.{is_ancestor}
use Rattle.hg_model.specs.Forks.{is_fork}
use Rattle.hg_plain_graph.proofs.seeing.has_other_side.Given as goal

abbrev pub invariant-loop-b : goal.invariant-loop-b
invariant-loop-b l = some_below l.b (λ b. is_ancestor l.ancestry l.x b && is_fork l.ancestry l.member l.a b) ≡ false
