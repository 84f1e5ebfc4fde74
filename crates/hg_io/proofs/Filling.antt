-- A buffer that is filled with the first bytes of a file.
use Rattle.std.proofs.Common.{◌≡◌, ℕ, ◌+◌, ◌≤◌, List, ◌++◌, length, take, drop, sym, ◌∙◌, ap}
use Rattle.std.proofs.Math.Seq.{take-add, take-append-add}
use Rattle.std.proofs.lemmas.List.{take-append-le, length-take-le}

-- k bytes more, behind those that are there
pub more_filled : (buf next rest bytes : List ℕ) (at k : ℕ) → at ≤ length buf → k ≤ length next → take at buf ≡ take at bytes
    → take k next ≡ take k (drop at bytes) → take (at + k) (take at buf ++ (next ++ rest)) ≡ take (at + k) bytes
more_filled buf next rest bytes at k within fits front same =
    let behind : take k (next ++ rest) ≡ take k (drop at bytes) = take-append-le k next rest fits ∙ same in
    ap (λ (n : ℕ). take (n + k) (take at buf ++ (next ++ rest))) (sym (length-take-le at buf within))
    ∙ take-append-add (take at buf) (next ++ rest) k
    ∙ (λ i. front i ++ behind i)
    ∙ sym (take-add at k bytes)
