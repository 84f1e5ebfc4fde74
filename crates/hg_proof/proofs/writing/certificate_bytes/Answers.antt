use Rattle.std.proofs.Common.{arith}
use Rattle.hg_proof.proofs.writing.certificate_bytes.Goals as goal

pub overflow_cast-len : goal.overflow_cast-len
overflow_cast-len c = omega (arith, c.requires.len, c.len.ensures.lawful.few)
