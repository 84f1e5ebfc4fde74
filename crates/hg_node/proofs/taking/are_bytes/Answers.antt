use Rattle.std.proofs.Common.{arith}
use Rattle.hg_node.proofs.taking.are_bytes.Goals as goal

pub returns : goal.returns
returns c = λ i. omega (arith, c.type_inv.bytes i)
