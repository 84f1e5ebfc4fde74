use Rattle.std.proofs.Common.{arith}
use Rattle.std.proofs.lemmas.Grind.{common_steps}
use Rattle.hg_pay.proofs.paying.can_pay.Goals as goal

pub returns-then-transfer-balances : goal.returns-then-transfer-balances
returns-then-transfer-balances c = grind (arith, common_steps)
