use Rattle.hg_node.proofs.FewLaws.{changes_are_few, spellings_are_short}
use Rattle.hg_node.proofs.laws.histories_are_short.Goals as goal

pub returns-clause-few : goal.returns-clause-few
returns-clause-few c = changes_are_few

pub returns-clause-short : goal.returns-clause-short
returns-clause-short c = spellings_are_short
