-- Bytes in which two lists differ, gathered in one number
use Rattle.std.proofs.Common.{length, get_or, take, eqb, add-one, ◌≡◌, ℕ, ◌+◌, ◌%◌, ◌<◌, ◌≤◌, List, [], ◌∷◌, ◌++◌, ◌↔◌, refl, sym, ap, ◌∙◌, arith, bit_or, bit_xor}
use Rattle.std.specs.Int.{bit_at}
use Rattle.std.specs.Int.Bits.{xor_self}
use Rattle.std.proofs.lemmas.Nat.{le_or_l, le_or_r}
use Rattle.std.proofs.lemmas.Nat.Bits.{bit_at_xor, bit_at-zero, bit_at-lt, same_from_bits}
use Rattle.std.specs.Str.{bytes_eq}
use Rattle.std.proofs.Math.Seq.{take-suc}
use Rattle.std.proofs.lemmas.Bool.{eq-eqb, eqb-true}
use Rattle.std.proofs.lemmas.Bool.Decides.{same_from_decides}
use Rattle.std.proofs.lemmas.Slice.Eq.{bytes_eq-Decides}
use Rattle.std.proofs.lemmas.List.{same_from_push, take_all}

-- the number is zero just where the lists are equal
abbrev pub AreDifferences : ℕ → List ℕ → List ℕ → Type 0
AreDifferences d xs ys = (d ≡ 0) ↔ (xs ≡ ys)

same_bit : (x y : ℕ) → x < 2 → y < 2 → (x + y) % 2 ≡ 0 → x ≡ y
same_bit x y xl yl e = omega (arith, e)

same_from_xor : (x y : ℕ) → bit_xor x y ≡ 0 → x ≡ y
same_from_xor x y e =
    same_from_bits x y (λ i. same_bit (bit_at x i) (bit_at y i) (bit_at-lt x i) (bit_at-lt y i) (sym (bit_at_xor x y i) ∙ ap (λ (n : ℕ). bit_at n i) e ∙ bit_at-zero i))

AreDifferences-push : (d x y : ℕ) (xs ys : List ℕ) → AreDifferences d xs ys → AreDifferences (bit_or d (bit_xor x y)) (xs ++ x ∷ []) (ys ++ y ∷ [])
AreDifferences-push d x y xs ys tells = (
  λ e.
      let left : d ≡ 0 = omega (arith, e, le_or_l d (bit_xor x y)) in
      let right : bit_xor x y ≡ 0 = omega (arith, e, le_or_r d (bit_xor x y)) in
      rw (tells.0 left, same_from_xor x y right) refl,
  λ e.
      let parts = same_from_push xs ys x y e in
      rw (tells.1 parts.0, parts.1, xor_self y) refl,
)

-- one byte more of each
pub AreDifferences-more : (d i : ℕ) (xs ys : List ℕ) → i < length xs → i < length ys → AreDifferences d (take i xs) (take i ys) → AreDifferences (bit_or d (bit_xor (get_or xs i 0) (get_or ys i 0))) (take (i + 1) xs) (take (i + 1) ys)
AreDifferences-more d i xs ys in_xs in_ys tells =
    rw (add-one i, take-suc xs i 0 in_xs, take-suc ys i 0 in_ys) (AreDifferences-push d (get_or xs i 0) (get_or ys i 0) (take i xs) (take i ys) tells)

-- all bytes of both
pub AreDifferences-all : (d n : ℕ) (xs ys : List ℕ) → length xs ≤ n → length ys ≤ n → AreDifferences d (take n xs) (take n ys) → eqb d 0 ≡ bytes_eq xs ys
AreDifferences-all d n xs ys in_xs in_ys tells =
    let whole : AreDifferences d xs ys = rw (take_all n xs in_xs, take_all n ys in_ys) at tells in
    same_from_decides (eqb d 0) (bytes_eq xs ys) (λ e. whole.0 (eqb-true d 0 e), λ e. eq-eqb d 0 (whole.1 e)) (bytes_eq-Decides xs ys)
