use Rattle.std.proofs.Common.{arith}
use Rattle.hg_model.proofs.XorLaws.{xor_bytes_is}
use Rattle.hg_order.proofs.white.xor_into.Goals as goal

pub returns : goal.returns
returns c = xor_bytes_is c.args.bytes.now c.args.others.now c.loop-i.bytes (omega arith) c.requires (λ k h. c.loop-i.invariant.done k (omega arith))
