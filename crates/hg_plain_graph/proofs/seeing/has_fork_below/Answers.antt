use Rattle.std.proofs.Common.{◌∙◌, ℕ, sym}
use Rattle.hg_model.specs.Ancestry.{some_ancestor}
use Rattle.hg_model.specs.Forks.{is_fork, has_fork_below}
use Rattle.hg_model.proofs.AncestryLaws.{some_ancestor_from}
use Rattle.hg_plain_graph.proofs.seeing.has_fork_below.Goals as goal

pub returns-then-is_fork_side : goal.returns-then-is_fork_side
unfolding has_fork_below
returns-then-is_fork_side c =
    let L = c.args.ancestry.now in
    sym (some_ancestor_from L c.args.x c.loop-a.a (λ (a : ℕ). some_ancestor L c.args.x (is_fork L c.args.member a)) c.loop-a-test.true
    (sym c.is_fork_side.ensures ∙ c.if-is_fork_side.true))
