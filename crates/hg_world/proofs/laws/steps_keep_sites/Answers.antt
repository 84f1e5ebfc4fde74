use Rattle.hg_world.proofs.StepLaws.{steps_sites}
use Rattle.hg_world.proofs.laws.steps_keep_sites.Goals as goal

pub returns : goal.returns
returns c = steps_sites
