use Rattle.std.proofs.Common.{◌∙◌, sym}
use Rattle.std.proofs.lemmas.Bool.{both_ways, false_from_ne_true}
use Rattle.hg_model.specs.Forks.{has_fork, has_fork_below}
use Rattle.hg_model.proofs.ForkLaws.{has_fork_below-has_fork}
use Rattle.hg_plain_graph.proofs.seeing.next_forked.Goals as goal

pub returns-else-has : goal.returns-else-has
returns-else-has c =
    let L = c.args.ancestry.now in
    c.if-has.false ∙ sym (false_from_ne_true (has_fork_below L c.args.x c.args.member) (λ below.
    both_ways (has_fork L c.args.member) (sym c.requires.known ∙ c.if-has.false) (has_fork_below-has_fork L c.args.x c.args.member c.requires.place below)))
