use Rattle.std.proofs.Common.{◌∙◌, ◌++◌, ◌∷◌, [], List, ap₂, sym, zero-add, ℕ}
use Rattle.std.proofs.lemmas.List.FromFn.{map-range_with_len_more}
use Rattle.hg_model.specs.Order.{sequence_of}
use Rattle.hg_play.proofs.printing.sequences.Goals as goal

pub loop-x-preserved : goal.loop-x-preserved
loop-x-preserved g c =
    c.in_ok-push.ensures.items
    ∙ (ap₂ (λ (before : List ℕ) (last : ℕ). before ++ last ∷ []) c.loop-x.invariant c.next_sequence-sequence.ensures
    ∙ sym (map-range_with_len_more (sequence_of (g.S.Sight.shape c.args.sight.now).links) 0 c.loop-x.x c.loop-x.x (zero-add c.loop-x.x)))
