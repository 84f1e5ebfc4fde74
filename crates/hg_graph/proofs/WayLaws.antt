-- Ways down the trees of an index, when one more row is put in
use Rattle.std.proofs.Common.{◌≡◌, ◌≢◌, ℕ, zero, suc, ◌+◌, ◌-◌, ◌/◌, ◌%◌, ◌<◌, ◌≤◌, ◌⊎◌, eqb, ltb, cond, List, length, slice_set, refl, sym, ap, ◌∙◌, subst, inl, inr, arith}
use Rattle.std.proofs.lemmas.Bool.{cases_Bool, cases_eq, lt-ltb}
use Rattle.std.proofs.lemmas.List.{get_or-set_same, get_or-set_other, length-set}
use Rattle.std.proofs.Math.Seq.{map-set_same}
use Rattle.hg_graph.specs.declared.names.HashedRow.{HashedRow}
use Rattle.hg_graph.specs.Names.{below, hashed_at, with_below, AreLaterBelow, IsFound, IsMet, IsUnlinked, LeavesWays}

-- no way goes on from 0
pub none_met : (hashed : List HashedRow) (x steps digits : ℕ) → IsMet hashed x steps 0 digits → ⊥
none_met hashed x zero digits met = met
none_met hashed x (suc steps) digits met = elim met [ inl here ↦ absurd (omega arith) | inr some ↦ absurd (omega (arith, some.0)) ]

pub none_found : (hashed : List HashedRow) (x digits : ℕ) → IsFound hashed x 0 digits → ⊥
none_found hashed x digits found = none_met hashed x found.0 digits found.1

-- a row that is found is the one at hand or found below it
pub found_below : (hashed : List HashedRow) (x number digits : ℕ) → IsFound hashed x number digits → number ≢ x + 1 → IsFound hashed x (below (hashed_at hashed (number - 1)) digits) (digits / 2)
found_below hashed x number digits (zero, met) other = absurd met
found_below hashed x number digits (suc steps, met) other = elim met [ inl here ↦ absurd (other here) | inr rest ↦ (steps, rest.1) ]

pub found_step : (hashed : List HashedRow) (x number digits : ℕ) → 0 < number → IsFound hashed x (below (hashed_at hashed (number - 1)) digits) (digits / 2) → IsFound hashed x number digits
found_step hashed x number digits some found = (suc found.0, inr (some, found.1))

pub found_here : (hashed : List HashedRow) (x digits : ℕ) → IsFound hashed x (x + 1) digits
found_here hashed x digits = (1, inl refl)

-- what is met is met where ways stay
module _ (old new : List HashedRow) (ways : LeavesWays old new) where
  pub met_kept : (x steps number digits : ℕ) → IsMet old x steps number digits → IsMet new x steps number digits
  met_kept x zero number digits met = met
  met_kept x (suc steps) number digits met = elim met [
    | inl here ↦ inl here
    | inr rest ↦ elim (ways.kept (number - 1) digits) [
      | inl none ↦ absurd (none_met old x steps (digits / 2) (subst (λ n. IsMet old x steps n (digits / 2)) none rest.1))
      | inr same ↦ inr (rest.0, subst (λ n. IsMet new x steps n (digits / 2)) (sym same) (met_kept x steps (below (hashed_at old (number - 1)) digits) (digits / 2) rest.1))
    ]
  ]

  pub found_kept : (x number digits : ℕ) → IsFound old x number digits → IsFound new x number digits
  found_kept x number digits found = (found.0, met_kept x found.0 number digits found.1)

-- and where the same rows stand below each
module _ (old new : List HashedRow) (same : (x digits : ℕ) → below (hashed_at new x) digits ≡ below (hashed_at old x) digits) where
  met_alike : (x steps number digits : ℕ) → IsMet old x steps number digits → IsMet new x steps number digits
  met_alike x zero number digits met = met
  met_alike x (suc steps) number digits met = elim met [
    | inl here ↦ inl here
    | inr rest ↦ inr (rest.0, subst (λ n. IsMet new x steps n (digits / 2)) (sym (same (number - 1) digits)) (met_alike x steps (below (hashed_at old (number - 1)) digits) (digits / 2) rest.1))
  ]

  pub found_alike : (x number digits : ℕ) → IsFound old x number digits → IsFound new x number digits
  found_alike x number digits found = (found.0, met_alike x found.0 number digits found.1)

pub ways_stay : (hashed : List HashedRow) → LeavesWays hashed hashed
ways_stay hashed = record { hashes = refl; long = refl; kept = λ x digits. inr refl }

-- what stands below a row by some digits, when another number stands there by others
pub below_with : (row : HashedRow) (digits number other : ℕ) → (below row digits ≡ 0) →
    ((below row other ≡ 0) × (below (with_below row digits number) other ≡ number)) ⊎ (below (with_below row digits number) other ≡ below row other)
below_with row digits number other none = elim (cases_Bool (eqb (digits % 2) 0)) [
  | inl even ↦ elim (cases_Bool (eqb (other % 2) 0)) [
    | inl same ↦ inl (
      ap (λ t. cond t row.even row.odd) (same ∙ sym even) ∙ none,
      ap (λ t. cond t (cond (eqb (digits % 2) 0) number row.even) (cond (eqb (digits % 2) 0) row.odd number)) same ∙ ap (λ t. cond t number row.even) even,
    )
    | inr apart ↦ inr (
        ap (λ t. cond t (cond (eqb (digits % 2) 0) number row.even) (cond (eqb (digits % 2) 0) row.odd number)) apart
        ∙ (ap (λ t. cond t row.odd number) even ∙ sym (ap (λ t. cond t row.even row.odd) apart)))
  ]
  | inr odd ↦ elim (cases_Bool (eqb (other % 2) 0)) [
    | inl apart ↦ inr (
        ap (λ t. cond t (cond (eqb (digits % 2) 0) number row.even) (cond (eqb (digits % 2) 0) row.odd number)) apart
        ∙ (ap (λ t. cond t number row.even) odd ∙ sym (ap (λ t. cond t row.even row.odd) apart)))
    | inr same ↦ inl (
      ap (λ t. cond t row.even row.odd) (same ∙ sym odd) ∙ none,
      ap (λ t. cond t (cond (eqb (digits % 2) 0) number row.even) (cond (eqb (digits % 2) 0) row.odd number)) same ∙ ap (λ t. cond t row.odd number) odd,
    )
  ]
]

pub below_same : (row : HashedRow) (digits number : ℕ) → below (with_below row digits number) digits ≡ number
below_same row digits number = elim (cases_Bool (eqb (digits % 2) 0)) [
  | inl even ↦ ap (λ t. cond t (cond t number row.even) (cond t row.odd number)) even
  | inr odd ↦ ap (λ t. cond t (cond t number row.even) (cond t row.odd number)) odd
]

abbrev no_row : HashedRow
no_row = record { hash = 0; even = 0; odd = 0 }

-- one more row at the end of a way
module _ (hashed : List HashedRow) (x digits number : ℕ) (inside : x < length hashed) (none : below (hashed_at hashed x) digits ≡ 0) where
  abbrev put : HashedRow
  put = with_below (hashed_at hashed x) digits number

  abbrev more : List HashedRow
  more = slice_set hashed x put

  read_put : (y : ℕ) → y ≡ x → hashed_at more y ≡ put
  read_put y is = ap (hashed_at more) is ∙ get_or-set_same hashed x put no_row inside

  read_other : (y : ℕ) → y ≢ x → hashed_at more y ≡ hashed_at hashed y
  read_other y other = get_or-set_other hashed x y put no_row other

  pub either_below : (y other : ℕ) → ((below (hashed_at hashed y) other ≡ 0) × (below (hashed_at more y) other ≡ number)) ⊎ (below (hashed_at more y) other ≡ below (hashed_at hashed y) other)
  either_below y other = elim (cases_eq y x) [
    | inl here ↦ elim (below_with (hashed_at hashed x) digits number other none) [
      | inl new ↦ inl (ap (λ (k : ℕ). below (hashed_at hashed k) other) here ∙ new.0, ap (λ (r : HashedRow). below r other) (read_put y here) ∙ new.1)
      | inr same ↦ inr (ap (λ (r : HashedRow). below r other) (read_put y here) ∙ (same ∙ sym (ap (λ (k : ℕ). below (hashed_at hashed k) other) here)))
    ]
    | inr off ↦ inr (ap (λ (r : HashedRow). below r other) (read_other y off))
  ]

  pub ways_put : LeavesWays hashed more
  ways_put = record {
    hashes = map-set_same (λ (e : HashedRow). e.hash) hashed x put no_row refl;
    long = length-set hashed x put;
    kept = λ y other. elim (either_below y other) [ inl new ↦ inl new.0 | inr same ↦ inr same ];
  }

  pub later_put : x + 1 < number → AreLaterBelow hashed (number - 1) → AreLaterBelow more number
  later_put less later y other = elim (cases_eq y x) [
    | inl here ↦ elim (either_below y other) [
      | inl new ↦ (let is : below (hashed_at more y) other ≡ number = new.1 in inr (omega arith, omega arith))
      | inr same ↦ elim (later y other) [
        | inl none ↦ inl (same ∙ none)
        | inr old ↦ inr (omega (arith, same, old.0), omega (arith, same, old.1))
      ]
    ]
    | inr off ↦ (let same : below (hashed_at more y) other ≡ below (hashed_at hashed y) other = ap (λ (r : HashedRow). below r other) (read_other y off) in
        elim (later y other) [
          | inl none ↦ inl (same ∙ none)
          | inr old ↦ inr (omega (arith, same, old.0), omega (arith, same, old.1))
        ])
  ]

  pub found_put : (k : ℕ) → number ≡ k + 1 → IsFound more k (x + 1) digits
  found_put k is =
      let here : below (hashed_at more x) digits ≡ number = ap (λ (r : HashedRow). below r digits) (read_put x refl) ∙ below_same (hashed_at hashed x) digits number in
      let at : x + 1 - 1 ≡ x = omega arith in
      found_step more k (x + 1) digits (omega arith)
      (subst (λ n. IsFound more k n (digits / 2)) (sym (ap (λ (y : ℕ). below (hashed_at more y) digits) at ∙ (here ∙ is))) (found_here more k (digits / 2)))

-- each row above none
pub unlinked_below : (row : HashedRow) → IsUnlinked row → (digits : ℕ) → below row digits ≡ 0
unlinked_below row none digits = elim (cases_Bool (eqb (digits % 2) 0)) [
  | inl even ↦ ap (λ t. cond t row.even row.odd) even ∙ none.even
  | inr odd ↦ ap (λ t. cond t row.even row.odd) odd ∙ none.odd
]

-- how far it is to the last row, which has the greatest number
pub way_shorter : (many number next : ℕ) → 0 < number → number ≤ many → (next ≡ 0) ⊎ ((number < next) × (next ≤ many)) →
    cond (ltb 0 next) (many + 1 - next) 0 < cond (ltb 0 number) (many + 1 - number) 0
way_shorter many number next some low (inl none) = rw (none, lt-ltb 0 number some) (omega arith)
way_shorter many number next some low (inr later) = rw (lt-ltb 0 next (omega (arith, later.0)), lt-ltb 0 number some) (omega (arith, later.0, later.1))
