use Rattle.std.proofs.Common.{arith}
use Rattle.std.proofs.lemmas.Grind.{common_steps}
use Rattle.order_match.proofs.matching.is_better.Goals as goal

pub returns-in-Buy : goal.returns-in-Buy
returns-in-Buy c = grind (arith, common_steps)
