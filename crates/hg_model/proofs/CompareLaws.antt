-- The laws of comparisons made of comparisons
use Rattle.std.proofs.Common.{◌≡◌, ℕ, ◌<◌, ◌≤◌, true, false, ltb, eqb, List, [], ◌∷◌, ◌++◌, length, get_or, nat_cmp, is_lt, is_eq, Ordering, refl, sym, ap, ◌∙◌, arith}
use Rattle.std.specs.declared.cmp.Ordering.TheVariants.{Less, Equal, Greater}
use Rattle.std.specs.Ordering.{ordering_then}
use Rattle.std.specs.Cmp.Lexicographic.{slice_cmp}
use Rattle.std.proofs.lemmas.Bool.{lt-ltb, le-ltb, ne_eqb}
use Rattle.std.proofs.lemmas.Cmp.{ranked}
use Rattle.std.proofs.lemmas.Slice.Eq.{bytes_eq-Decides}
use Rattle.std.proofs.lemmas.Map.Text.{is_eq-slice_cmp}

pub then_assoc : (o p q : Ordering) → ordering_then (ordering_then o p) q ≡ ordering_then o (ordering_then p q)
then_assoc Less p q = refl
then_assoc Equal p q = refl
then_assoc Greater p q = refl

-- lists that begin with lists of one length
pub slice_cmp-append : (xs ys us vs : List ℕ) → length xs ≡ length ys →
    slice_cmp nat_cmp (xs ++ us) (ys ++ vs) ≡ ordering_then (slice_cmp nat_cmp xs ys) (slice_cmp nat_cmp us vs)
slice_cmp-append [] [] us vs same = refl
slice_cmp-append [] (y ∷ ys) us vs same = absurd (omega arith)
slice_cmp-append (x ∷ xs) [] us vs same = absurd (omega arith)
slice_cmp-append (x ∷ xs) (y ∷ ys) us vs same =
    ap (ordering_then (nat_cmp x y)) (slice_cmp-append xs ys us vs (omega arith))
    ∙ sym (then_assoc (nat_cmp x y) (slice_cmp nat_cmp xs ys) (slice_cmp nat_cmp us vs))

-- the list with the lesser first number comes first
pub lesser_first : (xs ys : List ℕ) → get_or xs 0 0 < get_or ys 0 0 → (is_lt (slice_cmp nat_cmp xs ys) ≡ true) × (is_lt (slice_cmp nat_cmp ys xs) ≡ false)
lesser_first xs [] lower = absurd (omega arith)
lesser_first [] (y ∷ ys) lower = (refl, refl)
lesser_first (x ∷ xs) (y ∷ ys) lower =
    let less : ltb x y ≡ true = lt-ltb x y lower in
    let not_less : ltb y x ≡ false = le-ltb y x (omega arith) in
    let differ : eqb y x ≡ false = ne_eqb y x (λ e. absurd (omega arith)) in
    (rw less refl, rw (not_less, differ) refl)

-- a last comparison that is not less does not make a comparison less
pub is_lt-then : (o : Ordering) (a b : ℕ) → b ≤ a → is_lt (ordering_then o (nat_cmp a b)) ≡ is_lt o
is_lt-then Less a b le = refl
is_lt-then Equal a b le = grind (arith, ranked a b (nat_cmp a b) refl)
is_lt-then Greater a b le = refl

-- a comparison that ties ties in each part
pub is_eq-then : (o p : Ordering) → is_eq (ordering_then o p) ≡ true → (is_eq o ≡ true) × (is_eq p ≡ true)
is_eq-then Less p e = absurd cc
is_eq-then Equal p e = (refl, e)
is_eq-then Greater p e = absurd cc

pub nat_cmp-same : (a b : ℕ) → is_eq (nat_cmp a b) ≡ true → a ≡ b
nat_cmp-same a b e = grind (arith, ranked a b (nat_cmp a b) refl)

pub slice_cmp-same : (xs ys : List ℕ) → is_eq (slice_cmp nat_cmp xs ys) ≡ true → xs ≡ ys
slice_cmp-same xs ys e = (bytes_eq-Decides xs ys).0 (sym (is_eq-slice_cmp xs ys) ∙ e)
