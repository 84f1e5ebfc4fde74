use Rattle.std.proofs.Common.{◌∙◌, ◌/◌, ◌≤◌, length, sym, arith}
use Rattle.std.proofs.lemmas.Bool.{le-ltb}
use Rattle.hg_bits.proofs.WordLaws.{has_bit-past}
use Rattle.hg_votes.proofs.tally.is_in.Goals as goal

pub returns-else-slot-words : goal.returns-else-slot-words
returns-else-slot-words c =
    let past : length c.args.words.now ≤ c.args.slot / 64 = omega (arith, c.if-slot-words.false) in
    le-ltb (c.args.slot / 64) (length c.args.words.now) past ∙ sym (has_bit-past c.args.words.now c.args.slot past)
