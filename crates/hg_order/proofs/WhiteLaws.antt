-- The whitening, signature by signature, and how whitened bytes compare, byte by byte
use Rattle.std.proofs.Common.{◌≡◌, ℕ, zero, suc, ◌+◌, ◌<◌, ◌≤◌, List, [], ◌∷◌, length, get_or, take, drop, replicate, bit_xor, refl, ap, ◌∙◌, arith}
use Rattle.std.specs.declared.cmp.Ordering.{Ordering}
use Rattle.std.specs.Ordering.{nat_cmp, ordering_then}
use Rattle.std.specs.Cmp.Lexicographic.{slice_cmp}
use Rattle.std.proofs.lemmas.List.Sums.{fold_more}
use Rattle.hg_model.specs.declared.row.Row.{Row}
use Rattle.hg_model.specs.Order.{sig_at, xor_bytes}
use Rattle.hg_order.specs.Famous.{whitening_of}

pub whitening_none : (G : List Row) → whitening_of G [] ≡ replicate 64 0
unfolding whitening_of
whitening_none G = refl

pub whitening_more : (G : List Row) (places : List ℕ) (i d : ℕ) → i < length places →
    whitening_of G (take (i + 1) places) ≡ xor_bytes (whitening_of G (take i places)) (sig_at G (get_or places i d))
unfolding whitening_of
whitening_more G places i d h = fold_more (λ white w. xor_bytes white (sig_at G w)) (replicate 64 0) places i d h

-- how the bytes from i on compare when they are whitened
abbrev pub whitened_from : List ℕ → List ℕ → List ℕ → ℕ → Ordering
whitened_from white a b i = slice_cmp nat_cmp (xor_bytes (drop i a) (drop i white)) (xor_bytes (drop i b) (drop i white))

-- those at one place, whitened
abbrev pub white_byte : List ℕ → List ℕ → ℕ → ℕ
white_byte white a i = bit_xor (get_or a i 0) (get_or white i 0)

next_white : (white a b : List ℕ) (i : ℕ) → i < length a → i < length b → i < length white →
    whitened_from white a b i ≡ ordering_then (nat_cmp (white_byte white a i) (white_byte white b i)) (whitened_from white a b (suc i))
next_white [] a b i la lb lw = absurd (omega arith)
next_white (w ∷ white) [] b i la lb lw = absurd (omega arith)
next_white (w ∷ white) (x ∷ a) [] i la lb lw = absurd (omega arith)
next_white (w ∷ white) (x ∷ a) (y ∷ b) zero la lb lw = refl
next_white (w ∷ white) (x ∷ a) (y ∷ b) (suc i) la lb lw = next_white white a b i (omega (arith, la)) (omega (arith, lb)) (omega (arith, lw))

-- they compare as the first does, and where those are the same as the rest does
pub white_next : (white a b : List ℕ) (i : ℕ) → i < length a → i < length b → i < length white →
    whitened_from white a b i ≡ ordering_then (nat_cmp (white_byte white a i) (white_byte white b i)) (whitened_from white a b (i + 1))
white_next white a b i la lb lw =
    let next : suc i ≡ i + 1 = omega arith in
    next_white white a b i la lb lw ∙ ap (λ k. ordering_then (nat_cmp (white_byte white a i) (white_byte white b i)) (whitened_from white a b k)) next

drop_all : (xs : List ℕ) (i : ℕ) → length xs ≤ i → drop i xs ≡ []
drop_all [] zero h = refl
drop_all [] (suc i) h = refl
drop_all (x ∷ xs) zero h = absurd (omega arith)
drop_all (x ∷ xs) (suc i) h = drop_all xs i (omega (arith, h))

-- behind the last there are none
pub white_end : (white a b : List ℕ) (i : ℕ) → length a ≤ i → length b ≤ i → whitened_from white a b i ≡ slice_cmp nat_cmp [] []
white_end white a b i la lb = ap (λ (xs : List ℕ). slice_cmp nat_cmp (xor_bytes xs (drop i white)) (xor_bytes (drop i b) (drop i white))) (drop_all a i la)
    ∙ ap (λ (xs : List ℕ). slice_cmp nat_cmp (xor_bytes [] (drop i white)) (xor_bytes xs (drop i white))) (drop_all b i lb)

pub ruleset whitening_steps = (whitening_none, whitening_more)
