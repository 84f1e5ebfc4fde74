-- One row more of the first rows
use Rattle.std.proofs.Common.{◌≡◌, ◌<◌, ◌+◌, ℕ, List, [], ◌∷◌, ◌++◌, Option, Some, take, length, slice_get, unwrap_or, sym, ap, ◌∙◌}
use Rattle.std.proofs.lemmas.List.{take_more}
use Rattle.std.proofs.lemmas.Option.{slice_get-get_or}

pub take_got : {X : Type 0} (xs : List X) (i : ℕ) (x : X) → i < length xs → slice_get xs i ≡ Some x → take (i + 1) xs ≡ take i xs ++ x ∷ []
take_got {X} xs i x lt got = take_more xs i x lt ∙ ap (λ (y : X). take i xs ++ y ∷ []) (ap (λ (o : Option X). unwrap_or o x) (sym (slice_get-get_or xs i x lt) ∙ got))
