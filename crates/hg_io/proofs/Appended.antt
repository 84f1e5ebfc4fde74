-- Bytes that are appended in two pieces.
use Rattle.std.proofs.Common.{◌≡◌, ℕ, ◌+◌, List, ◌++◌, Option, Some, None, option_map, take, drop, sym, ap, ◌∙◌, append_assoc, arith, refl}
use Rattle.std.proofs.lemmas.List.{take-append-drop, take-take, drop-take}
use Rattle.hg_io.specs.Bytes.{Appends, TakesOff}

pub option_map-append : (matches : Option (List ℕ)) (x y : List ℕ)
    → option_map (λ held. held ++ y) (option_map (λ held. held ++ x) matches) ≡ option_map (λ held. held ++ (x ++ y)) matches
option_map-append None x y = refl
option_map-append (Some held) x y = ap (λ (h : List ℕ). Some h) (append_assoc held x y)

-- the first n and then the next m are the first n + m
take-plus : (n m : ℕ) (xs : List ℕ) → take (n + m) xs ≡ take n xs ++ take m (drop n xs)
take-plus n m xs =
    let parts = take-append-drop n (take (n + m) xs) in
    sym (rw (take-take n (n + m) xs (omega arith), drop-take n m xs) at parts)

-- after the first n bytes, the first m of the rest
pub Appends-rest : (before between after : Option (List ℕ)) (n m : ℕ) (xs : List ℕ)
    → Appends before between (take n xs) → Appends between after (take m (drop n xs)) → Appends before after (take (n + m) xs)
Appends-rest before between after n m xs first second =
    rw (take-plus n m xs) (second ∙ ap (option_map (λ held. held ++ take m (drop n xs))) first ∙ option_map-append before (take n xs) (take m (drop n xs)))

-- what is taken off twice is taken off at once
pub takes_both : (before mid after : Option (List ℕ)) (xs ys : List ℕ) → TakesOff before mid xs → TakesOff mid after ys → TakesOff before after (xs ++ ys)
takes_both before mid None xs ys first second = first ∙ ap (option_map (λ rest. xs ++ rest)) second
takes_both before mid (Some rest) xs ys first second =
    first ∙ ap (option_map (λ left. xs ++ left)) second ∙ ap Some (sym (append_assoc xs ys rest))
