use Rattle.std.proofs.Common.{arith}
use Rattle.std.proofs.lemmas.Grind.{common_steps}
use Rattle.hg_event.proofs.write.encode.Goals as goal

pub returns-clause-spells : goal.returns-clause-spells
returns-clause-spells c = grind (arith, common_steps)
