use Rattle.std.proofs.Common.{arith}
use Rattle.std.proofs.lemmas.Grind.{common_steps}
use Rattle.hg_bits.proofs.kernels.narrow.max_into.Goals as goal

pub returns : goal.returns
returns c = grind (arith, common_steps)
