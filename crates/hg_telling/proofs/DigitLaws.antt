-- Digits of bytes in parts, and lines of them
use Rattle.std.proofs.Common.{◌≡◌, ℕ, Bool, true, false, ◌==◌, zero, suc, ◌+◌, ◌-◌, ◌<◌, ◌≤◌, List, [], ◌∷◌, ◌++◌, length, take, drop, get_or, codes, refl, sym, ap, ◌∙◌, arith, length-drop, inl, inr}
use Rattle.std.specs.Prelude.{min}
use Rattle.std.proofs.lemmas.Bool.{cases_lt, eqb-true}
use Rattle.std.proofs.lemmas.List.{drop_all, nil_from_length, take-append-drop, take_all}
use Rattle.hex.specs.Hex.{encode_lower, encode_with, lower_digits}
use Rattle.hg_service.specs.Text.{cut, cut_for, cut_size, digits_each, lines_text}
use Rattle.hg_pieces.proofs.Steps.{first_left}

encode-append : (t xs ys : List ℕ) → encode_with t (xs ++ ys) ≡ encode_with t xs ++ encode_with t ys
unfolding encode_with
encode-append t [] ys = refl
encode-append t (x ∷ xs) ys = rw (encode-append t xs ys) refl

-- the digits of a first part, and of the others
pub digits_left : (k : ℕ) (bytes : List ℕ) → encode_lower bytes ≡ encode_lower (take k bytes) ++ encode_lower (drop k bytes)
digits_left k bytes = ap encode_lower (sym (take-append-drop k bytes)) ∙ encode-append lower_digits (take k bytes) (drop k bytes)

pub digits_none : (bytes : List ℕ) → bytes ≡ [] → encode_lower bytes ≡ []
unfolding encode_with
digits_none bytes none = rw none refl

-- a line for each
pub lines_left : (xs : List (List ℕ)) (i : ℕ) (d : List ℕ) → i < length xs
    → lines_text (digits_each (drop i xs)) ≡ (encode_lower (get_or xs i d) ++ codes "\n") ++ lines_text (digits_each (drop (i + 1) xs))
lines_left xs i d lt = ap (λ (ys : List (List ℕ)). lines_text (digits_each ys)) (first_left xs i d lt)

pub lines_left_of : (xs : List (List ℕ)) (i : ℕ) (x : List ℕ) → x ≡ get_or xs i x → i < length xs
    → lines_text (digits_each (drop i xs)) ≡ (encode_lower x ++ codes "\n") ++ lines_text (digits_each (drop (i + 1) xs))
lines_left_of xs i x is lt =
    lines_left xs i x lt ∙ ap (λ (y : List ℕ). (encode_lower y ++ codes "\n") ++ lines_text (digits_each (drop (i + 1) xs))) (sym is)

-- ---- a certificate

cut_enough : (n m : ℕ) (bytes : List ℕ) → length bytes ≤ n → length bytes ≤ m → cut_for n bytes ≡ cut_for m bytes
cut_enough zero zero bytes small few = refl
cut_enough zero (suc m) [] small few = refl
cut_enough zero (suc m) (b ∷ bytes) small few = absurd (omega arith)
cut_enough (suc n) zero [] small few = refl
cut_enough (suc n) zero (b ∷ bytes) small few = absurd (omega arith)
cut_enough (suc n) (suc m) [] small few = refl
cut_enough (suc n) (suc m) (b ∷ bytes) small few =
    let fewer : length (drop cut_size (b ∷ bytes)) ≡ length (b ∷ bytes) - cut_size = length-drop cut_size (b ∷ bytes) in
    ap (λ (rest : List (List ℕ)). take cut_size (b ∷ bytes) ∷ rest) (cut_enough n m (drop cut_size (b ∷ bytes)) (omega (arith, fewer, small)) (omega (arith, fewer, few)))

cut_first : (bytes : List ℕ) → 0 < length bytes → cut bytes ≡ take cut_size bytes ∷ cut (drop cut_size bytes)
unfolding cut
cut_first [] some = absurd (omega arith)
cut_first (b ∷ bytes) some =
    let fewer : length (drop cut_size (b ∷ bytes)) ≡ length (b ∷ bytes) - cut_size = length-drop cut_size (b ∷ bytes) in
    ap (λ (rest : List (List ℕ)). take cut_size (b ∷ bytes) ∷ rest)
    (cut_enough (length bytes) (length (drop cut_size (b ∷ bytes))) (drop cut_size (b ∷ bytes)) (omega (arith, fewer)) (omega arith))

-- a part that is as long as a line has it, or all that is left
part_same : (k : ℕ) (bytes : List ℕ) → k ≡ min (length bytes) cut_size → (take k bytes ≡ take cut_size bytes) × (drop k bytes ≡ drop cut_size bytes)
part_same k bytes is = elim (cases_lt cut_size (length bytes)) [
  | inl long ↦
      let same : k ≡ cut_size = omega (arith, is, long) in
      (ap (λ (n : ℕ). take n bytes) same, ap (λ (n : ℕ). drop n bytes) same)
  | inr short ↦
      let all : k ≡ length bytes = omega (arith, is, short) in (
        take_all k bytes (omega (arith, all)) ∙ sym (take_all cut_size bytes (omega (arith, short))),
        drop_all k bytes (omega (arith, all)) ∙ sym (drop_all cut_size bytes (omega (arith, short))),
      )
]

pub cut_left : (k : ℕ) (bytes : List ℕ) → k ≡ min (length bytes) cut_size → 0 < length bytes → cut bytes ≡ take k bytes ∷ cut (drop k bytes)
cut_left k bytes is some =
    let (front, behind) = part_same k bytes is in
    cut_first bytes some ∙ ap (λ (part : List ℕ). part ∷ cut (drop cut_size bytes)) (sym front) ∙ ap (λ (rest : List ℕ). take k bytes ∷ cut rest) (sym behind)

pub cut_lines_left : (k : ℕ) (bytes : List ℕ) → k ≡ min (length bytes) cut_size → 0 < length bytes
    → lines_text (digits_each (cut bytes)) ≡ (encode_lower (take k bytes) ++ codes "\n") ++ lines_text (digits_each (cut (drop k bytes)))
cut_lines_left k bytes is some = ap (λ (parts : List (List ℕ)). lines_text (digits_each parts)) (cut_left k bytes is some)

pub cut_none : (bytes : List ℕ) → bytes ≡ [] → cut bytes ≡ []
unfolding cut
cut_none bytes none = rw none refl

-- ---- whether bytes are left

pub none_left : (bytes : List ℕ) (is_empty : Bool) → is_empty ≡ (length bytes == 0) → is_empty ≡ true → bytes ≡ []
none_left bytes is_empty is empty = nil_from_length bytes (eqb-true (length bytes) 0 (sym is ∙ empty))

pub some_left : (bytes : List ℕ) (is_empty : Bool) → is_empty ≡ (length bytes == 0) → is_empty ≡ false → 0 < length bytes
some_left [] is_empty is some = absurd (let no : true ≡ false = sym is ∙ some in cc)
some_left (b ∷ bytes) is_empty is some = omega arith
