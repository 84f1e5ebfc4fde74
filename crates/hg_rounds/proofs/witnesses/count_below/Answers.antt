use Rattle.std.proofs.Common.{arith}
use Rattle.std.proofs.lemmas.Grind.{common_steps}
use Rattle.hg_rounds.proofs.witnesses.count_below.Goals as goal

pub returns-else-places-count-clause-last : goal.returns-else-places-count-clause-last
returns-else-places-count-clause-last c = grind (arith, common_steps)
