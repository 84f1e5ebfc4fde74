-- Lists of one length joined end to end, and a list behind them
use Rattle.std.proofs.Common.{ℕ, zero, suc, ◌≡◌, ◌<◌, ◌≤◌, ◌+◌, ◌*◌, List, [], ◌∷◌, ◌++◌, length, take, drop, get_or, refl, sym, ap, ap₂, ◌∙◌, arith}
use Rattle.std.proofs.Math.Nat.{mul-suc, mul-zero}
use Rattle.std.proofs.Math.Seq.{take-append-add, drop-append-add}
use Rattle.std.proofs.lemmas.List.{append_assoc, length-append, take_at, take_all, drop_more}
use Rattle.std.specs.List.{flat_map, AllByRecursion}

module _ {X T : Type 0} (f : X → List T) (k : ℕ) where
  abbrev pub HasLength : X → Type 0
  HasLength x = length (f x) ≡ k

  next : (n : ℕ) → k * suc n ≡ k + k * n
  next n = omega (arith, mul-suc k n)

  pub length_flat : (xs : List X) → AllByRecursion HasLength xs → length (flat_map f xs) ≡ k * length xs
  length_flat [] each = omega arith
  length_flat (x ∷ xs) each = omega (arith, length-append (f x) (flat_map f xs), length_flat xs each.1, next (length xs), each.0)

  -- the first n lists
  pub take_flat : (xs : List X) (ys : List T) (n : ℕ) → AllByRecursion HasLength xs → n ≤ length xs → flat_map f (take n xs) ≡ take (k * n) (flat_map f xs ++ ys)
  take_flat xs ys zero each le = sym (ap (λ i. take i (flat_map f xs ++ ys)) (mul-zero k))
  take_flat [] ys (suc n) each le = absurd (omega arith)
  take_flat (x ∷ xs) ys (suc n) each le =
      ap (λ zs. f x ++ zs) (take_flat xs ys n each.1 (omega arith))
      ∙ sym (ap₂ take (next n ∙ ap (λ l. l + k * n) (sym each.0)) (append_assoc (f x) (flat_map f xs) ys)
      ∙ take-append-add (f x) (flat_map f xs ++ ys) (k * n))

  -- what stands behind them
  pub drop_flat : (xs : List X) (ys : List T) (n : ℕ) → AllByRecursion HasLength xs → n ≤ length xs → drop (k * n) (flat_map f xs ++ ys) ≡ flat_map f (drop n xs) ++ ys
  drop_flat xs ys zero each le = ap (λ i. drop i (flat_map f xs ++ ys)) (mul-zero k)
  drop_flat [] ys (suc n) each le = absurd (omega arith)
  drop_flat (x ∷ xs) ys (suc n) each le =
      ap₂ drop (next n ∙ ap (λ l. l + k * n) (sym each.0)) (append_assoc (f x) (flat_map f xs) ys)
      ∙ (drop-append-add (f x) (flat_map f xs ++ ys) (k * n)
      ∙ drop_flat xs ys n each.1 (omega arith))

  -- list n
  pub list_flat : (xs : List X) (ys : List T) (n : ℕ) (e : X) → AllByRecursion HasLength xs → n < length xs → take k (drop (k * n) (flat_map f xs ++ ys)) ≡ f (get_or xs n e)
  list_flat xs ys n e each lt =
      let here = get_or xs n e in
      ap (take k) (drop_flat xs ys n each (omega arith)
      ∙ (ap (λ zs. flat_map f zs ++ ys) (drop_more xs n e lt)
      ∙ append_assoc (f here) (flat_map f (drop (n + 1) xs)) ys))
      ∙ take_at (f here) (flat_map f (drop (n + 1) xs) ++ ys) k (long xs n each lt)
    where
      long : (xs : List X) (n : ℕ) → AllByRecursion HasLength xs → n < length xs → length (f (get_or xs n e)) ≡ k
      long [] n each lt = absurd (omega arith)
      long (x ∷ xs) zero each lt = each.0
      long (x ∷ xs) (suc n) each lt = long xs n each.1 (omega arith)

  -- the list behind all of them
  pub rest_flat : (xs : List X) (ys : List T) → AllByRecursion HasLength xs → length ys ≤ k → take k (drop (k * length xs) (flat_map f xs ++ ys)) ≡ ys
  rest_flat xs ys each few =
      ap (take k) (drop_flat xs ys (length xs) each (omega arith) ∙ ap (λ zs. flat_map f zs ++ ys) (gone xs)) ∙ take_all k ys few
    where
      gone : (xs : List X) → drop (length xs) xs ≡ []
      gone [] = refl
      gone (x ∷ xs) = gone xs
