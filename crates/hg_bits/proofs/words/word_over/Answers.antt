use Rattle.std.proofs.Common.{◌∙◌, ap, ap₂, Bool, ◌&&◌, not, sym, arith}
use Rattle.hg_bits.specs.Words.{is_set}
use Rattle.hg_bits.proofs.WordLaws.{is_set-over, has_bit-in_word}
use Rattle.hg_bits.proofs.words.word_over.Goals as goal

pub returns : goal.returns
returns c = λ i h.
    is_set-over _ c.word_at.result i (omega arith) h
    ∙ (ap₂ (λ (a b : Bool). a && not b) (sym (has_bit-in_word c.args.words.now c.args.k i h))
    (ap (λ w. is_set w i) c.word_at.ensures ∙ sym (has_bit-in_word c.args.others.now c.args.k i h)))
