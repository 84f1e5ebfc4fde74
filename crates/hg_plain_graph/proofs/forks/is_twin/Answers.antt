use Rattle.std.proofs.Common.{◌∙◌, sym}
use Rattle.hg_plain_graph.proofs.TwinLaws.{is_twin_read}
use Rattle.hg_plain_graph.proofs.forks.is_twin.Goals as goal

pub returns : goal.returns
returns c = c.is_twin_row.ensures ∙ sym (is_twin_read _ _ _ _ _ c.requires.first c.requires.second c.index-rows-x.is c.index-rows-y.is)
