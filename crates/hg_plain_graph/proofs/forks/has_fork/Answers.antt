use Rattle.std.proofs.Common.{◌∙◌, sym}
use Rattle.hg_plain_graph.proofs.TwinLaws.{has_fork-has_twins}
use Rattle.hg_plain_graph.proofs.forks.has_fork.Goals as goal

pub returns : goal.returns
returns c = c.has_twins.ensures ∙ sym (has_fork-has_twins _ c.requires.earlier c.requires.by_same _)
