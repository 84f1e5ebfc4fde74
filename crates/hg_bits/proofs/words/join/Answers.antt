use Rattle.std.proofs.Common.{arith}
use Rattle.hg_bits.proofs.WordLaws.{bits_joined}
use Rattle.hg_bits.proofs.words.join.Goals as goal

pub returns-clause-bits : goal.returns-clause-bits
returns-clause-bits c =
    bits_joined c.args.words.now c.args.others.now c.loop-k.words
    (λ k h. c.loop-k.invariant.joined k (omega arith)) (λ k h. c.loop-k.invariant.kept k (omega arith))
