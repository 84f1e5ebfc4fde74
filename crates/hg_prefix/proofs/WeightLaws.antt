-- Weights of places that a relation matches one to one, and lists of what stands at them
use Rattle.std.proofs.Common.{◌≡◌, ◌≢◌, ℕ, zero, suc, ◌<◌, ◌≤◌, Bool, true, cond, sym, refl, ap, ◌∙◌, inl, inr, arith}
use Rattle.std.proofs.lemmas.Bool.{cases_Bool}
use Rattle.hg_model.specs.Places.{weight_below, list_below}
use Rattle.hg_model.proofs.SortLaws.{HasSameSums}
use Rattle.hg_model.proofs.WeightLaws.{passes_beside, beside_other, weight_below_beside}
use Rattle.hg_model.proofs.ListLaws.{sum_by-list_below}

-- a place below n that passes, stands where it is to stand, and weighs as much or more
abbrev pub HasMatch : (ℕ → ℕ) → (ℕ → Bool) → (ℕ → ℕ) → ℕ → ℕ → ℕ → Type 0
HasMatch weight test at n here least = (y : ℕ) × (y < n) × (test y ≡ true) × (at y ≡ here) × (least ≤ weight y)

-- places that are matched by others weigh no more than those
pub weight_below-matched : (one two : ℕ → ℕ) (at_one at_two : ℕ → ℕ) (m n : ℕ) (test other : ℕ → Bool) →
    ((x y : ℕ) → x < m → y < m → at_one x ≡ at_one y → x ≡ y) →
    ((x : ℕ) → x < m → test x ≡ true → HasMatch two other at_two n (at_one x) (one x)) →
    weight_below one m test ≤ weight_below two n other
unfolding weight_below
weight_below-matched one two at_one at_two zero n test other apart match = omega arith
weight_below-matched one two at_one at_two (suc m) n test other apart match = elim (cases_Bool (test m)) [
  | inl passes ↦
      (let last = match m (omega arith) passes in
      let rest = weight_below-matched one two at_one at_two m n test (passes_beside other last.0) (λ x y hx hy. apart x y (omega arith) (omega arith))
      (λ x hx e.
      let y = match x (omega arith) e in
      let differ : y.0 ≢ last.0 = λ same. let is = apart x m (omega arith) (omega arith) (sym y.3 ∙ (ap at_two same ∙ last.3)) in absurd (omega arith) in
      (y.0, y.1, beside_other other last.0 y.0 differ ∙ y.2, y.3, y.4)) in
      let here : cond (test m) (one m) 0 ≡ one m = rw passes refl in
      omega (arith, rest, here, weight_below_beside two n other last.0 last.1 last.2, last.4))
  | inr fails ↦
      (let rest = weight_below-matched one two at_one at_two m n test other (λ x y hx hy. apart x y (omega arith) (omega arith)) (λ x hx e. match x (omega arith) e) in
      let here : cond (test m) (one m) 0 ≡ 0 = rw fails refl in
      omega (arith, rest, here))
]

-- a place below n that passes, stands where it is to stand, and has the value
abbrev pub HasLike : {A : Type 0} → (ℕ → A) → (ℕ → Bool) → (ℕ → ℕ) → ℕ → ℕ → A → Type 0
HasLike value test at n here wanted = (y : ℕ) × (y < n) × (test y ≡ true) × (at y ≡ here) × (value y ≡ wanted)

-- lists of what stands at places that match one to one have the same elements
pub list_below-matched : {A : Type 0} (one two : ℕ → A) (at_one at_two : ℕ → ℕ) (m n : ℕ) (test other : ℕ → Bool) →
    ((x y : ℕ) → x < m → y < m → at_one x ≡ at_one y → x ≡ y) → ((x y : ℕ) → x < n → y < n → at_two x ≡ at_two y → x ≡ y) →
    ((x : ℕ) → x < m → test x ≡ true → HasLike two other at_two n (at_one x) (one x)) →
    ((y : ℕ) → y < n → other y ≡ true → HasLike one test at_one m (at_two y) (two y)) →
    HasSameSums (list_below one m test) (list_below two n other)
list_below-matched one two at_one at_two m n test other apart_one apart_two there back weight =
    let no_more = weight_below-matched (λ x. weight (one x)) (λ y. weight (two y)) at_one at_two m n test other apart_one
    (λ x hx e. let y = there x hx e in let same : weight (two y.0) ≡ weight (one x) = ap weight y.4 in (y.0, y.1, y.2, y.3, omega arith)) in
    let no_less = weight_below-matched (λ y. weight (two y)) (λ x. weight (one x)) at_two at_one n m other test apart_two
    (λ y hy e. let x = back y hy e in let same : weight (one x.0) ≡ weight (two y) = ap weight x.4 in (x.0, x.1, x.2, x.3, omega arith)) in
    omega (arith, no_more, no_less, sum_by-list_below weight one m test, sum_by-list_below weight two n other)
