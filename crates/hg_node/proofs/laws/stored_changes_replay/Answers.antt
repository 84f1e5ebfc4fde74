use Rattle.hg_node.proofs.ReplayLaws.{puts_replay, makes_replay, marks_replay}
use Rattle.hg_node.proofs.laws.stored_changes_replay.Goals as goal

pub returns-clause-took : goal.returns-clause-took
returns-clause-took g c = puts_replay _

pub returns-clause-made : goal.returns-clause-made
returns-clause-made g c = makes_replay _

pub returns-clause-marked : goal.returns-clause-marked
returns-clause-marked g c = marks_replay _
