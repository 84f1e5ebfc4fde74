use Rattle.std.proofs.Common.{arith}
use Rattle.std.proofs.lemmas.Grind.{common_steps}
use Rattle.relay.proofs.request.program.Goals as goal

pub returns-clause-app : goal.returns-clause-app
returns-clause-app c = grind (arith, common_steps)
