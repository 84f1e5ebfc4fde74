use Rattle.std.proofs.Common.{arith}
use Rattle.std.proofs.lemmas.Grind.{common_steps}
use Rattle.hg_fame.proofs.sharing.mark_at.Goals as goal

pub returns-then-x-marks : goal.returns-then-x-marks
returns-then-x-marks c = grind (arith, common_steps)
