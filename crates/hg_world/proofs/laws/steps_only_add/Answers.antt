use Rattle.hg_world.proofs.GrowthLaws.{steps_grown, steps_members}
use Rattle.hg_world.proofs.laws.steps_only_add.Goals as goal

pub returns-clause-histories : goal.returns-clause-histories
returns-clause-histories c = steps_grown

pub returns-clause-members : goal.returns-clause-members
returns-clause-members c = steps_members
