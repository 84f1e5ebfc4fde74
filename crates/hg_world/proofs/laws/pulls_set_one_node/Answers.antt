use Rattle.hg_world.proofs.PullLaws.{pulls_set}
use Rattle.hg_world.proofs.laws.pulls_set_one_node.Goals as goal

pub returns : goal.returns
returns c = pulls_set
