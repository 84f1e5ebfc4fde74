use Rattle.std.proofs.Common.{arith}
use Rattle.std.proofs.lemmas.Grind.{common_steps}
use Rattle.hg_blocks.proofs.blocks.Blocks.reserve_block.Goals as goal

pub seal-requires : goal.seal-requires
seal-requires g c = grind (arith, common_steps)
