-- What is read in the rows of bits, and how the next one is made
use Rattle.std.proofs.Common.{◌≡◌, ℕ, ◌+◌, ◌-◌, ◌^◌, ◌<◌, ◌≤◌, ◌||◌, eqb, true, false, List, [], ◌∷◌, Bool, length, take, drop, take-append-drop, get_or, replicate, refl, sym, ap, ap₂, ◌∙◌, inl, inr, arith}
use Rattle.std.specs.List.{AllByRecursion, list_any}
use Rattle.std.proofs.lemmas.Bool.{cases_lt, eq-eqb, false_from_ne_true, or_cases, or_left, or_right, true≢false}
use Rattle.std.proofs.lemmas.List.{take_all, get_or_read, get_or_past, get_or-replicate, length-replicate}
use Rattle.std.proofs.lemmas.List.Folds.{list_any_at, list_any_more, list_any-append}
use Rattle.std.proofs.Math.Bool.{or_assoc}
use Rattle.hg_model.specs.Places.{table, IsEarlier}
use Rattle.hg_model.specs.Stakes.{Stakes}
use Rattle.hg_model.specs.Links.{Link, parents}
use Rattle.hg_model.specs.Ancestry.{is_ancestor}
use Rattle.hg_model.specs.Shape.{FitsLink, link_of}
use Rattle.hg_model.proofs.ReachLaws.{has_place_later, list_any_found}
use Rattle.hg_model.proofs.LinkLaws.{places_below}
use Rattle.hg_model.proofs.AncestryLaws.{is_ancestor-le}
use Rattle.hg_bits.specs.Rows.{is_in, with_place, union_of}
use Rattle.hg_bits.proofs.RowLaws.{is_in-table, is_table, length-table}
use Rattle.hg_ancestry.specs.Held.{row_at, above_row, is_above}
use Rattle.hg_ancestry.specs.Kept.{no_place}

pub row_read : (rows : List (List Bool)) (x : ℕ) (row : List Bool) → x < length rows → row ≡ get_or rows x row → row ≡ row_at rows x
unfolding row_at
row_read rows x row h is = get_or_read rows x row h is []

pub ruleset row_reads = (row_read)

pub row_long : (L : List Link) (x : ℕ) (row : List Bool) → row ≡ table (is_ancestor L x) (x + 1) → length row ≡ x + 1
row_long L x row is = ap length is ∙ length-table (is_ancestor L x) (x + 1)

-- what the row of bits of x has, also past its end
pub row_says : (L : List Link) → IsEarlier (parents L) → (x y : ℕ) (row : List Bool) → row ≡ table (is_ancestor L x) (x + 1) → is_in row y ≡ is_ancestor L x y
row_says L e x y row is = elim (cases_lt y (x + 1)) [
  | inl inside ↦ ap (λ row. is_in row y) is ∙ is_in-table (is_ancestor L x) (x + 1) y inside
  | inr past ↦ get_or_past row y false (omega (arith, row_long L x row is))
      ∙ sym (false_from_ne_true (is_ancestor L x y) (λ up. absurd (omega (arith, is_ancestor-le L e x y up))))
]

-- the next row of bits: that of no place

pub filled_none : (L : List Link) (n : ℕ) → replicate n false ≡ table (is_above L []) n
filled_none L n = is_table (replicate n false) (is_above L []) n (length-replicate n false) (λ i h. get_or-replicate n i false false h)

-- and of the ancestors of one row more
pub filled_more : (L : List Link) → IsEarlier (parents L) → (test : ℕ → Bool) (n x : ℕ) (row above new : List Bool) → row ≡ table test n → above ≡ table (is_ancestor L x) (x + 1) → new ≡ union_of row above →
    new ≡ table (λ k. test k || is_ancestor L x k) n
unfolding union_of
filled_more L e test n x row above new row_is above_is new_is =
    let long : length row ≡ n = ap length row_is ∙ length-table test n in
    new_is ∙ is_table (table (λ k. is_in row k || is_in above k) (length row)) (λ k. test k || is_ancestor L x k) n (length-table (λ k. is_in row k || is_in above k) (length row) ∙ long)
    (λ k h. is_in-table (λ k. is_in row k || is_in above k) (length row) k (omega (arith, long))
    ∙ ap₂ (λ (a b : Bool). a || b) (ap (λ row. is_in row k) row_is ∙ is_in-table test n k h) (row_says L e x k above above_is))

-- of the first parents, with one more
pub filled_next : (L : List Link) (p : ℕ) (qs : List ℕ) (i : ℕ) → i < length qs → (k : ℕ) →
    (is_above L (p ∷ take i qs) k || is_ancestor L (get_or qs i 0) k) ≡ is_above L (p ∷ take (i + 1) qs) k
filled_next L p qs i h k =
    or_assoc (is_ancestor L p k) (is_above L (take i qs) k) (is_ancestor L (get_or qs i 0) k)
    ∙ ap (λ b. is_ancestor L p k || b) (sym (list_any_more (λ q. is_ancestor L q k) qs i 0 h))

pub above_says : (L : List Link) (on : List ℕ) (row : List Bool) (k : ℕ) → row ≡ above_row L on → k < length L + 1 → is_in row k ≡ is_above L on k
above_says L on row k is h = ap (λ row. is_in row k) is ∙ is_in-table (is_above L on) (length L + 1) k h

first_above : (L : List Link) (p : ℕ) (qs : List ℕ) (i k : ℕ) → is_above L (p ∷ take i qs) k ≡ true → is_above L (p ∷ qs) k ≡ true
first_above L p qs i k h =
    let test : ℕ → Bool = λ q. is_ancestor L q k in
    elim (or_cases (test p) (list_any test (take i qs)) h) [
      | inl first ↦ or_left (test p) (list_any test qs) first
      | inr later ↦ or_right (test p) (list_any test qs) (ap (list_any test) (sym (take-append-drop i qs))
          ∙ (list_any-append test (take i qs) (drop i qs) ∙ or_left (list_any test (take i qs)) (list_any test (drop i qs)) later))
    ]

-- what is above such parents is there
pub above_there : (n : Stakes) (L : List Link) → IsEarlier (parents L) → (by : ℕ) (on : List ℕ) → FitsLink n L (link_of by on) → (k : ℕ) → is_above L on k ≡ true → k < length L
above_there n L e by on fits k h =
    let q = list_any_found (λ q. is_ancestor L q k) on h in
    let low : q.0 < length L = fits.earlier q.0 q.1 in
    let le : k ≤ q.0 = is_ancestor-le L e q.0 k q.2 in
    omega arith

-- a row of bits that has them has no others
pub above_inside : (n : Stakes) (L : List Link) → IsEarlier (parents L) → (by p : ℕ) (qs : List ℕ) → FitsLink n L (link_of by (p ∷ qs)) → (i : ℕ) (row : List Bool) → row ≡ above_row L (p ∷ take i qs) →
    (k : ℕ) → is_in row k ≡ true → k < length L
above_inside n L e by p qs fits i row is k h = elim (cases_lt k (length L + 1)) [
  | inl inside ↦ above_there n L e by (p ∷ qs) fits k (first_above L p qs i k (sym (above_says L (p ∷ take i qs) row k is inside) ∙ h))
  | inr past ↦ absurd (true≢false (sym h ∙ get_or_past row k false (omega (arith, ap length is, length-table (is_above L (p ∷ take i qs)) (length L + 1)))))
]

-- and the place of the row itself
pub filled_last : (test : ℕ → Bool) (row : List Bool) (n i : ℕ) → row ≡ table test n → with_place row i ≡ table (λ k. eqb k i || test k) n
unfolding with_place
filled_last test row n i is =
    let long : length row ≡ n = ap length is ∙ length-table test n in
    rw long (is_table (table (λ k. eqb k i || is_in row k) n) (λ k. eqb k i || test k) n (length-table (λ k. eqb k i || is_in row k) n)
    (λ k h. is_in-table (λ k. eqb k i || is_in row k) n k h ∙ ap (λ b. eqb k i || b) (ap (λ r. is_in r k) is ∙ is_in-table test n k h)))

-- parents that are matched as the first and the rest
pub first_and_rest : (on : List ℕ) → 1 ≤ length on → get_or on 0 0 ∷ take (length on - 1) (drop 1 on) ≡ on
first_and_rest [] h = absurd (omega arith)
first_and_rest (p ∷ ps) h =
    let rest : length (p ∷ ps) - 1 ≡ length ps = omega arith in
    ap (λ k. p ∷ take k ps) rest ∙ ap (λ (ps : List ℕ). p ∷ ps) (take_all (length ps) ps (omega arith))

-- the parents of a link that fits are there
pub other_there : (n : Stakes) (L : List Link) (by p : ℕ) (qs : List ℕ) → FitsLink n L (link_of by (p ∷ qs)) → (i : ℕ) → i < length qs → get_or qs i 0 < length L
other_there n L by p qs fits i h = fits.earlier (get_or qs i 0) (has_place_later p (get_or qs i 0) qs (list_any_at (λ q. eqb q (get_or qs i 0)) qs i 0 h (eq-eqb (get_or qs i 0) (get_or qs i 0) refl)))

pub places_fit : (n : Stakes) (L : List Link) (by : ℕ) (on : List ℕ) → FitsLink n L (link_of by on) → AllByRecursion (λ p. p < length L) on
places_fit n L by on fits = places_below (length L) on fits.earlier

-- and each is below the number that stands for none
pub places_kept : (n : Stakes) (L : List Link) (by : ℕ) (on : List ℕ) → FitsLink n L (link_of by on) → length L + 1 < 2 ^ 32 - 1 → AllByRecursion (λ p. p < no_place) on
places_kept n L by on fits short = places_below no_place on (λ p h. omega (arith, fits.earlier p h))
