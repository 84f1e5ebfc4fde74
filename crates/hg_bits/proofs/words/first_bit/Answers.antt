use Rattle.std.proofs.Common.{◌^◌, arith}
use Rattle.std.proofs.Math.Nat.{div-le_self}
use Rattle.hg_bits.proofs.WordLaws.{no_bit_left, first_bit_left}
use Rattle.hg_bits.proofs.words.first_bit.Goals as goal

pub returns-then-left-eq0 : goal.returns-then-left-eq0
returns-then-left-eq0 c = no_bit_left c.args.word c.args.low c.if-left-eq0.true

pub returns : goal.returns
returns c =
    let smaller = div-le_self c.args.word (2 ^ c.args.low) in
    first_bit_left c.args.word c.args.low (omega arith) (omega (arith, c.if-left-eq0.false)) (omega arith)
