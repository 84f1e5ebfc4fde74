use Rattle.std.proofs.Common.{◌∙◌, sym, arith}
use Rattle.std.proofs.lemmas.Bool.{true≢false}
use Rattle.hg_proof.proofs.FrontLaws.{between_low}
use Rattle.hg_proof.proofs.least.narrowed.Goals as goal

pub returns-else-branch-clause-between : goal.returns-else-branch-clause-between
returns-else-branch-clause-between c =
    between_low c.args.graph.now.graph c.len.ensures.lawful c.args.bounds.0 c.args.bounds.1 c.args.len c.requires.between (omega (arith, c.if-len-low.false)) (omega (arith, c.if-len-high.false))
    (λ whole. true≢false (sym (c.in_ok-has_whole.ensures.1 whole) ∙ c.if-branch.false))
