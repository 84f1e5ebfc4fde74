-- The first rows of a table
use Rattle.std.proofs.Common.{◌≡◌, inl, inr, ℕ, zero, suc, ◌+◌, ◌-◌, ◌<◌, ◌≤◌, Bool, true, false, cond, ◌&&◌, eqb, List, Option, Some, None, [], ◌∷◌, ◌++◌, length, take, drop, get_or, refl, sym, ap, ap₂, ◌∙◌, subst, arith, add-zero, add-suc}
use Rattle.std.proofs.lemmas.Bool.{cases_lt}
use Rattle.std.proofs.lemmas.List.{append-nil, append_assoc, length-append, length_push, length-take-le, take-append-drop, take-append-le, take-take, take_all, take_at, get_or-take, get_or_append_left, get_or-append_right, get_or_push}
use Rattle.std.specs.List.{AllByRecursion}
use Rattle.std.specs.Prelude.{slice_get, IfSome}
use Rattle.hg_model.specs.Places.{list_below, maximum_below}
use Rattle.hg_model.specs.Standings.{Standing, standing_round, standing_witness, round_at, witness_at, witnesses_in, greatest_in}
use Rattle.hg_model.proofs.ListLaws.{all_list_below}
use Rattle.hg_model.proofs.LongerLaws.{slice_get-append}
use Rattle.hg_model.proofs.PlacesLaws.{list_below-same, maximum_below_bounds}
use Rattle.hg_rounds.specs.Tabled.{standing, list_at, IsByRow, HasTops, KeepsLists, KeepsTable}
use Rattle.hg_rounds.specs.Cut.{IsCut}

-- a cut

all_at : (P : ℕ → Type 0) (xs : List ℕ) → AllByRecursion P xs → (i : ℕ) → i < length xs → P (get_or xs i 0)
all_at P [] all i lt = absurd (omega arith)
all_at P (x ∷ xs) all zero lt = all.0
all_at P (x ∷ xs) all (suc i) lt = all_at P xs all.1 i (omega arith)

all_both : (P : ℕ → Type 0) (xs ys : List ℕ) → AllByRecursion P xs → AllByRecursion P ys → AllByRecursion P (xs ++ ys)
all_both P [] ys one other = other
all_both P (x ∷ xs) ys one other = (one.0, all_both P xs ys one.1 other)

-- where a list is one of places below len and then one of others, the cut is the first
pub cut_is : (xs ys : List ℕ) (len : ℕ) → AllByRecursion (λ y. y < len) xs → AllByRecursion (λ y. len ≤ y) ys → (first : List ℕ) → IsCut (xs ++ ys) len first → first ≡ xs
cut_is xs ys len below above first cut =
    let count : ℕ = cut.count in
    let long = length-append xs ys in
    let same : count ≡ length xs = elim (cases_lt count (length xs)) [
      | inl less ↦ (
          let here : get_or xs count 0 < len = all_at (λ y. y < len) xs below count less in
          let there = cut.later count (omega arith) (omega arith) in
          absurd (omega (arith, get_or_append_left xs ys 0 count less)))
      | inr ge ↦ elim (cases_lt (length xs) count) [
        | inl more ↦ (
            let place : ℕ = count - 1 - length xs in
            let here : len ≤ get_or ys place 0 = all_at (λ y. len ≤ y) ys above place (let le = cut.within in omega arith) in
            let there = cut.last (omega arith) in
            let read : get_or (xs ++ ys) (count - 1) 0 ≡ get_or ys place 0 = get_or-append_right xs ys (length xs) (count - 1) 0 refl (omega arith) in
            absurd (omega arith))
        | inr le ↦ omega arith
      ]
    ] in
    cut.first_are ∙ take_at xs ys count (sym same)

-- the places of a list that pass, and those of the first ones
module _ (test : ℕ → Bool) (len : ℕ) where
  -- the places after the first len ones that pass
  pub later_places : ℕ → List ℕ
  later_places zero = []
  later_places (suc n) = later_places n ++ cond (test (len + n)) ((len + n) ∷ []) []

  pub places_split : (n : ℕ) → list_below (λ x. x) (len + n) test ≡ list_below (λ x. x) len test ++ later_places n
  unfolding list_below later_places
  places_split zero = rw (add-zero len) (sym (append-nil (list_below (λ x. x) len test)))
  places_split (suc n) =
      rw (add-suc len n) (ap (λ xs. xs ++ cond (test (len + n)) ((len + n) ∷ []) []) (places_split n)
      ∙ append_assoc (list_below (λ x. x) len test) (later_places n) (cond (test (len + n)) ((len + n) ∷ []) []))

  pub later_above : (n : ℕ) → AllByRecursion (λ y. len ≤ y) (later_places n)
  unfolding later_places
  later_above zero = tt
  later_above (suc n) = all_both (λ y. len ≤ y) (later_places n) (cond (test (len + n)) ((len + n) ∷ []) []) (later_above n) (one (test (len + n)))
    where
      one : (b : Bool) → AllByRecursion (λ y. len ≤ y) (cond b ((len + n) ∷ []) [])
      one true = (omega arith, tt)
      one false = tt

maximum_le : (value : ℕ → ℕ) (n most : ℕ) → ((k : ℕ) → k < n → value k ≤ most) → maximum_below value n ≤ most
unfolding maximum_below
maximum_le value zero most each = omega arith
maximum_le value (suc n) most each = omega (arith, each n (omega arith), maximum_le value n most (λ k lt. each k (omega arith)))

module _ (S : List Standing) (len : ℕ) (le : len ≤ length S) where
  abbrev pub F : List Standing
  F = take len S

  short : length F ≡ len
  short = length-take-le len S le

  read_first : (x : ℕ) → x < len → slice_get F x ≡ slice_get S x
  read_first x lt = sym (ap (λ xs. slice_get xs x) (sym (take-append-drop len S)) ∙ slice_get-append F (drop len S) (standing 0 true) x (omega (arith, short)))

  round_first : (x : ℕ) → x < len → round_at F x ≡ round_at S x
  unfolding round_at
  round_first x lt = ap standing_round (read_first x lt)

  witness_first : (x : ℕ) → x < len → witness_at F x ≡ witness_at S x
  unfolding witness_at
  witness_first x lt = ap standing_witness (read_first x lt)

  pub greatest_first : greatest_in F ≤ greatest_in S
  unfolding greatest_in
  greatest_first = maximum_le (round_at F) (length F) (greatest_in S) (λ k lt.
      rw (round_first k (omega (arith, short))) (maximum_below_bounds (round_at S) (length S) k (omega (arith, short))))

  pub by_row_first : IsByRow S → IsByRow F
  by_row_first b = record {
    first = λ x lt. rw (round_first x (omega (arith, short))) (b.first x (omega (arith, short)));
    next = λ x lt. rw (round_first x (omega (arith, short)), take-take x len S (omega (arith, short))) (b.next x (omega (arith, short)));
  }

  pub tops_first : (tops : List ℕ) → HasTops S tops → HasTops F (take len tops)
  tops_first tops has = record {
    long = length-take-le len tops (omega (arith, has.long)) ∙ sym short;
    each = λ x lt. get_or-take len tops x 0 (omega (arith, short)) ∙ (has.each x (omega (arith, short)) ∙ ap greatest_in (sym (take-take (x + 1) len S (omega (arith, short)))));
  }

  pub cut_places : (r : ℕ) (places first : List ℕ) → places ≡ witnesses_in S r → IsCut places len first → first ≡ witnesses_in F r
  unfolding witnesses_in
  cut_places r places first all cut =
      let test : ℕ → Bool = λ x. witness_at S x && eqb (round_at S x) r in
      let test_first : ℕ → Bool = λ x. witness_at F x && eqb (round_at F x) r in
      let rest : ℕ = length S - len in
      let sum : length S ≡ len + rest = omega arith in
      let split : places ≡ list_below (λ x. x) len test ++ later_places test len rest = all ∙ (ap (λ n. list_below (λ x. x) n test) sum ∙ places_split test len rest) in
      cut_is (list_below (λ x. x) len test) (later_places test len rest) len
      (all_list_below (λ y. y < len) (λ x. x) len test (λ k lt passes. lt))
      (later_above test len rest) first (subst (λ (places : List ℕ). IsCut places len first) split cut)
      ∙ (list_below-same (λ x. x) (λ x. x) len test test_first
      (λ k lt. sym (ap₂ (λ (w : Bool) (n : ℕ). w && eqb n r) (witness_first k lt) (round_first k lt))) (λ k lt passes. refl)
      ∙ ap (λ n. list_below (λ x. x) n test_first) (sym short))

pub top_none : (S : List Standing) → 0 ≡ greatest_in (take 0 S)
unfolding greatest_in maximum_below
top_none S = refl

pub top_first : (S : List Standing) (tops : List ℕ) (len : ℕ) → HasTops S tops → 0 < len → len ≤ length S → get_or tops (len - 1) 0 ≡ greatest_in (take len S)
top_first S tops len has some le = has.each (len - 1) (omega arith) ∙ ap (λ n. greatest_in (take n S)) (let sum : len - 1 + 1 ≡ len = omega arith in sum)

-- one row more
pub tops_push : (S : List Standing) (tops : List ℕ) (s : Standing) (top : ℕ) → HasTops S tops → top ≡ greatest_in (S ++ s ∷ []) → HasTops (S ++ s ∷ []) (tops ++ top ∷ [])
tops_push S tops s top has is = record {
  long = length_push tops top ∙ (ap (λ n. n + 1) has.long ∙ sym (length_push S s));
  each = λ x lt. elim (cases_lt x (length S)) [
    | inl before ↦ get_or_append_left tops (top ∷ []) 0 x (omega (arith, has.long)) ∙ (has.each x before ∙ ap greatest_in (sym (take-append-le (x + 1) S (s ∷ []) (omega arith))))
    | inr past ↦ get_or_push tops top 0 x (omega (arith, has.long, length_push S s)) ∙ (is ∙ ap greatest_in (sym (take_all (x + 1) (S ++ s ∷ []) (omega (arith, length_push S s)))))
  ];
}

if_there : (one : Option ℕ) (count top : ℕ) → count ≡ top + 2 → IfSome one (λ r. r ≤ top + 1) → IfSome one (λ r. r < count)
if_there None count top long there = tt
if_there (Some r) count top long there = omega arith

-- a round that is there stays there
pub still_there : (one : Option ℕ) (count top new : ℕ) → count ≡ top + 2 → top ≤ new → IfSome one (λ r. r < count) → IfSome one (λ r. r ≤ new + 1)
still_there None count top new long more there = tt
still_there (Some r) count top new long more there = omega arith

pub table_with : (S : List Standing) (tops : List ℕ) (s : Standing) (lists : List (List ℕ)) (weights : List ℕ) (top longest : ℕ) (one : Option ℕ) (spare : List ℕ) → HasTops S tops → KeepsLists (S ++ s ∷ []) lists top longest →
    length weights ≡ length lists → IfSome one (λ r. r ≤ top + 1) → spare ≡ [] → KeepsTable (S ++ s ∷ []) (tops ++ top ∷ []) lists weights top longest one spare
table_with S tops s lists weights top longest one spare has keeps weighed there none =
    record { lists_kept = keeps; tops_kept = tops_push S tops s top has keeps.greatest; weighed = weighed; there = if_there one (length lists) top keeps.long there; empty = none }

pub no_tops : HasTops [] []
no_tops = record { long = refl; each = λ x lt. absurd (omega arith) }

-- the first rows as a table
pub table_first : (S : List Standing) (tops : List ℕ) (lists cuts : List (List ℕ)) (weights first : List ℕ) (top longest greatest len : ℕ) (one : Option ℕ) (spare none : List ℕ) → KeepsTable S tops lists weights top longest one spare →
    len ≤ length S → greatest ≡ greatest_in (take len S) → length cuts ≡ greatest + 2 → length first ≡ greatest + 2 → ((r : ℕ) → r < greatest + 2 → IsCut (list_at lists r) len (list_at cuts r)) → none ≡ [] →
    KeepsTable (take len S) (take len tops) cuts first greatest longest None none
table_first S tops lists cuts weights first top longest greatest len one spare none keeps le is long weighed each empty =
    let less : greatest ≤ top = omega (arith, greatest_first S len le, is, keeps.lists_kept.greatest) in
    let all : length lists ≡ top + 2 = keeps.lists_kept.long in
    record {
      lists_kept = record {
        by_row = by_row_first S len le keeps.lists_kept.by_row;
        greatest = is;
        long = long;
        matches = λ r lt. cut_places S len le r _ _ (keeps.lists_kept.matches r (omega arith)) (each r (omega arith));
        within = λ r lt. (
            let cut = each r (omega arith) in
            omega (arith, ap length cut.first_are, length-take-le cut.count (list_at lists r) cut.within, cut.within, keeps.lists_kept.within r (omega arith)));
      };
      tops_kept = tops_first S len le tops keeps.tops_kept;
      weighed = weighed ∙ sym long;
      there = tt;
      empty = empty;
    }
