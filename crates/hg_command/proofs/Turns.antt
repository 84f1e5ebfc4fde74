-- A turn of a loop that folds a list
use Rattle.std.proofs.Common.{◌≡◌, ◌<◌, ◌+◌, ◌∙◌, ℕ, List, sym, ap, fold, get_or, length, take}
use Rattle.std.proofs.lemmas.List.Sums.{fold_more}

-- what is folded up to a place, with one turn more
pub fold_turn : {X Y : Type 0} (f : Y → X → Y) (b : Y) (xs : List X) (i : ℕ) (none : X) (old new : Y)
    → old ≡ fold f b (take i xs) → new ≡ f old (get_or xs i none) → i < length xs → new ≡ fold f b (take (i + 1) xs)
fold_turn f b xs i none old new was is inside =
    is ∙ (ap (λ y. f y (get_or xs i none)) was ∙ sym (fold_more f b xs i none inside))
