use Rattle.std.proofs.Common.{◌*◌}
use Rattle.hg_bits.specs.Words.{NoneFrom, is_bit_over}
use Rattle.hg_bits.proofs.words.first_over.Given as goal

abbrev pub invariant-loop-k : goal.invariant-loop-k
invariant-loop-k l = NoneFrom (is_bit_over l.words l.others) l.from (64 * l.k)
