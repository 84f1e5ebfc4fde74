use Rattle.hg_bits.proofs.WordLaws.{bit_made}
use Rattle.hg_bits.proofs.words.set_bit.Goals as goal

pub returns-clause-bits : goal.returns-clause-bits
returns-clause-bits c = λ k. bit_made c.args.words.now c.args.i k c.requires
