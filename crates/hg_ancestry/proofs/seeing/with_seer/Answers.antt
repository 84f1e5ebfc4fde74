use Rattle.std.proofs.Common.{arith}
use Rattle.std.proofs.lemmas.Grind.{common_steps}
use Rattle.hg_ancestry.proofs.seeing.with_seer.Goals as goal

pub returns-then-sees : goal.returns-then-sees
returns-then-sees c = grind (arith, common_steps)
