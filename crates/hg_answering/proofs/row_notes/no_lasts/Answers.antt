use Rattle.std.proofs.Common.{◌∙◌, ◌++◌, ◌∷◌, [], ap, List, Option, None, ℕ, sym, zero-add}
use Rattle.std.proofs.lemmas.List.FromFn.{map-range_with_len_more}
use Rattle.hg_answering.proofs.row_notes.no_lasts.Goals as goal

pub loop-preserved : goal.loop-preserved
loop-preserved c =
    let none : ℕ → Option (List ℕ) = λ x. None in
    c.in_ok-push.ensures.items ∙ (ap (λ (xs : List (Option (List ℕ))). xs ++ None ∷ []) c.loop.invariant
    ∙ sym (map-range_with_len_more none 0 c.loop.counter c.loop.counter (zero-add c.loop.counter)))
