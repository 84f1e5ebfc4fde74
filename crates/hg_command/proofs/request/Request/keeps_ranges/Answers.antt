use Rattle.std.proofs.Common.{arith}
use Rattle.std.proofs.lemmas.Grind.{common_steps}
use Rattle.hg_command.proofs.request.Request.keeps_ranges.Goals as goal

pub returns-in-Run : goal.returns-in-Run
returns-in-Run c = grind (arith, common_steps)
