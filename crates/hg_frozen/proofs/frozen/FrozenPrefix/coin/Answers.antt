use Rattle.std.proofs.Common.{arith}
use Rattle.std.proofs.lemmas.Grind.{common_steps}
use Rattle.hg_frozen.proofs.frozen.FrozenPrefix.coin.Goals as goal

pub returns-clause-value : goal.returns-clause-value
returns-clause-value g c = grind (arith, common_steps)

pub returns-clause-matches : goal.returns-clause-matches
returns-clause-matches g c = grind (arith, common_steps)
