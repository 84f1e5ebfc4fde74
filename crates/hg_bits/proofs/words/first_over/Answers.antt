use Rattle.std.proofs.Common.{length, arith}
use Rattle.hg_bits.proofs.WordLaws.{first_in_words, none_in_word}
use Rattle.hg_bits.proofs.words.first_over.Goals as goal

pub returns-in-Some : goal.returns-in-Some
returns-in-Some c =
    first_in_words c.args.words.now c.args.others.now c.args.from c.loop-k.k c.low_of.result c.word_over.result
    c.loop-k.invariant c.word_over.ensures c.low_of.ensures.first c.low_of.ensures.later (omega arith) (length c.args.words.now) c.in-Some.i (omega arith) c.in-Some.ensures

pub loop-k-preserved : goal.loop-k-preserved
loop-k-preserved c =
    none_in_word c.args.words.now c.args.others.now c.args.from c.loop-k.k c.low_of.result c.word_over.result
    c.loop-k.invariant c.word_over.ensures c.low_of.ensures.first c.low_of.ensures.later (omega arith) c.in_default.ensures
