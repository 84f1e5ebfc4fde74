-- Which members have a row in one row of bits alone
use Rattle.std.proofs.Common.{◌≡◌, ℕ, zero, suc, ◌+◌, ◌<◌, ◌≤◌, ◌||◌, ◌&&◌, not, eqb, true, false, Bool, List, length, sym, ap, ap₂, ◌∙◌, refl, inl, inr, arith, add-one}
use Rattle.std.proofs.lemmas.Bool.{cases_lt, false_from_ne_true}
use Rattle.std.proofs.lemmas.List.{get_or_past}
use Rattle.std.proofs.Math.Bool.{or-false, or_comm}
use Rattle.hg_model.specs.Places.{some_below}
use Rattle.hg_model.specs.Links.{Link, creator}
use Rattle.hg_model.proofs.PlacesLaws.{some_below_next}
use Rattle.hg_bits.specs.Words.{IsFirst, NoneFrom}
use Rattle.hg_bits.specs.Rows.{is_in, is_over}
use Rattle.hg_ancestry.specs.Held.{is_apart}
use Rattle.hg_ancestry.proofs.SeerLaws.{eqb_turned}

-- a search that goes on from one place that passes to the next

skipped : (test : ℕ → Bool) (from n : ℕ) → from ≤ n → NoneFrom test from n → some_below n test ≡ some_below from test
skipped test from zero le none = (let same : from ≡ 0 = omega arith in rw same refl)
skipped test from (suc n) le none = elim (cases_lt n from) [
  | inl last ↦ (let same : from ≡ suc n = omega arith in rw same refl)
  | inr more ↦ ap (λ k. some_below k test) (sym (add-one n)) ∙ (some_below_next n test
      ∙ (ap (λ b. some_below n test || b) (none n more (omega arith)) ∙ (or-false (some_below n test) ∙ skipped test from n more (λ i h l. none i h (omega arith)))))
]

module _ (L : List Link) (row other : List Bool) (from : ℕ) (mask : ℕ → Bool) (matches : (m : ℕ) → mask m ≡ some_below from (λ a. is_over row other a && eqb (creator L a) m)) where
  apart_none : (a m : ℕ) → is_over row other a ≡ false → (is_over row other a && eqb (creator L a) m) ≡ false
  apart_none a m h = ap (λ b. b && eqb (creator L a) m) h

  pub apart_next : (a member : ℕ) (result : ℕ → Bool) → IsFirst (is_over row other) from a → member ≡ creator L a → ((m : ℕ) → result m ≡ (eqb m member || mask m)) →
      (m : ℕ) → result m ≡ some_below (a + 1) (λ a. is_over row other a && eqb (creator L a) m)
  apart_next a member result first by_member made m =
      let test : ℕ → Bool = λ a. is_over row other a && eqb (creator L a) m in
      let before : some_below a test ≡ mask m = skipped test from a first.low (λ i h l. apart_none i m (first.none_before i h l)) ∙ sym (matches m) in
      let here : test a ≡ eqb m member = ap (λ b. b && eqb (creator L a) m) first.passes ∙ (ap (λ c. eqb c m) (sym by_member) ∙ eqb_turned member m) in
      made m ∙ (or_comm (eqb m member) (mask m) ∙ (ap₂ (λ (b c : Bool). b || c) (sym before) (sym here) ∙ sym (some_below_next a test)))

  pub apart_all : NoneFrom (is_over row other) from (length row) → ((k : ℕ) → is_in row k ≡ true → k < length L) → (m : ℕ) → mask m ≡ is_apart L (is_in row) (is_in other) m
  apart_all none inside m =
      let test : ℕ → Bool = λ a. is_over row other a && eqb (creator L a) m in
      let outside : (a : ℕ) → is_in row a ≡ false → test a ≡ false = λ a out. apart_none a m (ap (λ b. b && not (is_in other a)) out) in
      let none_later : NoneFrom test from (from + length L) = λ a low h. elim (cases_lt a (length row)) [
        | inl before ↦ apart_none a m (none a low before)
        | inr past ↦ outside a (get_or_past row a false past)
      ] in
      let none_outside : NoneFrom test (length L) (from + length L) = λ a low h. outside a (false_from_ne_true (is_in row a) (λ here. let below = inside a here in absurd (omega arith))) in
      matches m ∙ (sym (skipped test from (from + length L) (omega arith) none_later) ∙ skipped test (length L) (from + length L) (omega arith) none_outside)
