-- Lists of standings: what they tell of a row, and how one more changes them
use Rattle.std.proofs.Common.{◌≡◌, inl, inr, ℕ, suc, ◌+◌, ◌<◌, ◌≤◌, Bool, cond, ◌&&◌, eqb, max, List, [], ◌∷◌, ◌++◌, length, take, get_or, refl, sym, ap, ap₂, ◌∙◌, arith, add-one}
use Rattle.std.proofs.lemmas.Bool.{cases_lt, and_parts, eqb-true, false_from_ne_true}
use Rattle.std.proofs.lemmas.List.{length_push, take-append-le}
use Rattle.std.proofs.Math.Seq.{take-append_seam}
use Rattle.std.proofs.lemmas.Option.{slice_get_read}
use Rattle.hg_model.specs.Places.{list_below, maximum_below}
use Rattle.hg_model.specs.Standings.{Standing, standing_round, standing_witness, round_at, witness_at, witnesses_in, greatest_in}
use Rattle.hg_model.proofs.PlacesLaws.{list_below-same, list_below_none, maximum_below-same, maximum_below_bounds}
use Rattle.hg_model.proofs.PushLaws.{slice_get-before, slice_get-last}
use Rattle.hg_rounds.specs.Tabled.{IsByRow}

-- a standing that is read in the list

pub round_read : (S : List Standing) (x : ℕ) (s : Standing) → x < length S → s ≡ get_or S x s → s.round ≡ round_at S x
unfolding round_at
round_read S x s h is = sym (ap standing_round (slice_get_read S (length S) x s refl h is))

pub witness_read : (S : List Standing) (x : ℕ) (s : Standing) → x < length S → s ≡ get_or S x s → s.witness ≡ witness_at S x
unfolding witness_at
witness_read S x s h is = sym (ap standing_witness (slice_get_read S (length S) x s refl h is))

pub ruleset standing_reads = (round_read, witness_read)

-- no round above the greatest has witnesses
pub witnesses_in_above : (S : List Standing) (r : ℕ) → greatest_in S < r → witnesses_in S r ≡ []
unfolding greatest_in witnesses_in
witnesses_in_above S r h = list_below_none (λ x. x) (length S) (λ x. witness_at S x && eqb (round_at S x) r) (λ x hx.
    false_from_ne_true (witness_at S x && eqb (round_at S x) r) (λ e.
    let same : round_at S x ≡ r = eqb-true (round_at S x) r (and_parts (witness_at S x) (eqb (round_at S x) r) e).1 in
    absurd (omega (arith, maximum_below_bounds (round_at S) (length S) x hx))))

module _ (S : List Standing) (s : Standing) where
  abbrev pub T : List Standing
  T = S ++ s ∷ []

  pub round_at_before : (x : ℕ) → x < length S → round_at T x ≡ round_at S x
  unfolding round_at
  round_at_before x h = ap standing_round (slice_get-before S s x h)

  pub round_at_last : round_at T (length S) ≡ s.round
  unfolding round_at
  round_at_last = ap standing_round (slice_get-last S s)

  witness_at_before : (x : ℕ) → x < length S → witness_at T x ≡ witness_at S x
  unfolding witness_at
  witness_at_before x h = ap standing_witness (slice_get-before S s x h)

  witness_at_last : witness_at T (length S) ≡ s.witness
  unfolding witness_at
  witness_at_last = ap standing_witness (slice_get-last S s)

  long : length T ≡ suc (length S)
  long = length_push S s ∙ add-one (length S)

  -- the witnesses of a round, the last row among them where it is one
  pub witnesses_in_push : (r : ℕ) → witnesses_in T r ≡ witnesses_in S r ++ cond (s.witness && eqb s.round r) (length S ∷ []) []
  unfolding witnesses_in list_below
  witnesses_in_push r =
      ap (λ n. list_below (λ x. x) n (λ x. witness_at T x && eqb (round_at T x) r)) long
      ∙ ap₂ (λ (xs ys : List ℕ). xs ++ ys)
      (list_below-same (λ x. x) (λ x. x) (length S) (λ x. witness_at T x && eqb (round_at T x) r) (λ x. witness_at S x && eqb (round_at S x) r)
      (λ x h. rw (witness_at_before x h, round_at_before x h) refl) (λ x h passes. refl))
      (ap₂ (λ (w : Bool) (k : ℕ). cond (w && eqb k r) (length S ∷ []) []) witness_at_last round_at_last)

  pub greatest_in_push : greatest_in T ≡ max (greatest_in S) s.round
  unfolding greatest_in maximum_below
  greatest_in_push =
      ap (λ n. maximum_below (round_at T) n) long
      ∙ ap₂ (λ (a b : ℕ). max a b) (maximum_below-same (round_at T) (round_at S) (length S) round_at_before) round_at_last

  row_before : (x : ℕ) → x < length S → take x T ≡ take x S
  row_before x h = take-append-le x S (s ∷ []) (omega arith)

  pub by_row_push : IsByRow S → 1 ≤ s.round → s.round ≤ greatest_in S + 1 → IsByRow T
  by_row_push b first next = record {
    first = λ x h. elim (cases_lt x (length S)) [
      | inl before ↦ rw (round_at_before x before) (b.first x before)
      | inr past ↦ (let same : x ≡ length S = omega (arith, long) in rw (same, round_at_last) first)
    ];
    next = λ x h. elim (cases_lt x (length S)) [
      | inl before ↦ rw (round_at_before x before, row_before x before) (b.next x before)
      | inr past ↦ (let same : x ≡ length S = omega (arith, long) in rw (same, round_at_last, take-append_seam S (s ∷ [])) next)
    ];
  }
