use Rattle.std.proofs.Common.{arith}
use Rattle.std.proofs.lemmas.Grind.{common_steps}
use Rattle.hg_forks.proofs.line.next_line.Goals as goal

pub returns-else-eq : goal.returns-else-eq
returns-else-eq c = grind (arith, common_steps)
