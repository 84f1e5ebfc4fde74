-- The first of the parts that are left of a text, and the others
use Rattle.std.proofs.Common.{◌≡◌, ◌∙◌, ◌+◌, ◌<◌, ◌++◌, ℕ, List, ◌∷◌, length, drop, get_or, sym, ap, add-one}
use Rattle.std.specs.List.{concat}
use Rattle.std.proofs.Math.Seq.{drop-cons}

pub parts_left : (parts : List (List ℕ)) (i : ℕ) (d : List ℕ) → i < length parts → concat (drop i parts) ≡ get_or parts i d ++ concat (drop (i + 1) parts)
parts_left parts i d lt = ap concat (drop-cons parts i d lt ∙ ap (λ k. get_or parts i d ∷ drop k parts) (sym (add-one i)))

pub part_left : (parts : List (List ℕ)) (i : ℕ) (x : List ℕ) → i < length parts → x ≡ get_or parts i x → concat (drop i parts) ≡ x ++ concat (drop (i + 1) parts)
part_left parts i x lt is = parts_left parts i x lt ∙ ap (λ (t : List ℕ). t ++ concat (drop (i + 1) parts)) (sym is)
