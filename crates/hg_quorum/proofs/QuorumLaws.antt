-- Weights of several sets: two quorums meet, and places of different members weigh no more than their members
use Rattle.std.proofs.Common.{◌≡◌, ℕ, zero, suc, ◌*◌, ◌<◌, ◌≤◌, Bool, true, false, cond, not, ◌&&◌, ◌||◌, eqb, sym, refl, ◌∙◌, inl, inr, arith}
use Rattle.std.proofs.lemmas.Bool.{and_parts, cases_Bool, cases_eq, eq-eqb, eqb-true, ne_eqb, not-true}
use Rattle.std.proofs.Math.Bool.{or-false}
use Rattle.hg_model.specs.Places.{weight_below, some_below}
use Rattle.hg_model.proofs.WeightLaws.{weight_below_both, weight_below_split}
use Rattle.hg_model.proofs.PlacesLaws.{some_below_found, weight_below-same, weight_below-le, weight_below_found, weight_below_none, weight_below-all}

-- two sets of more than two thirds of the weight share a place outside any set of less than a third of it
pub quorums_meet : (weight : ℕ → ℕ) (n : ℕ) (one two few : ℕ → Bool) →
    2 * weight_below weight n (λ _. true) < 3 * weight_below weight n one →
    2 * weight_below weight n (λ _. true) < 3 * weight_below weight n two →
    3 * weight_below weight n few < weight_below weight n (λ _. true) →
    (m : ℕ) × (m < n) × (one m ≡ true) × (two m ≡ true) × (few m ≡ false)
quorums_meet weight n one two few many_one many_two low =
    let shared : ℕ → Bool = λ k. one k && two k in
    let sum = weight_below_both weight n one two in
    let fits = weight_below-all weight n (λ k. one k || two k) in
    let split = weight_below_split weight n shared few in
    let bad = weight_below-le weight n (λ k. shared k && few k) few (λ k h e. (and_parts (shared k) (few k) e).1) in
    let m = weight_below_found weight n (λ k. shared k && not (few k)) (omega arith) in
    let good = and_parts (shared m.0) (not (few m.0)) m.2 in
    let in_both = and_parts (one m.0) (two m.0) good.0 in
    (m.0, m.1, in_both.0, in_both.1, not-true (few m.0) good.1)

-- the weight of one place
pub weight_below_one : (weight : ℕ → ℕ) (n a : ℕ) → a < n → weight_below weight n (λ k. eqb a k) ≡ weight a
unfolding weight_below
weight_below_one weight zero a h = absurd (omega arith)
weight_below_one weight (suc n) a h = elim (cases_eq a n) [
  | inl last ↦
      (let before : weight_below weight n (λ k. eqb a k) ≡ 0 =
      weight_below_none weight n (λ k. eqb a k) (λ k below e. let same : a ≡ k = eqb-true a k e in absurd (omega arith)) in
      let here : cond (eqb a n) (weight n) 0 ≡ weight a = rw (eq-eqb a n last, last) refl in
      omega (arith, before, here))
  | inr other ↦
      (let before = weight_below_one weight n a (omega arith) in
      let here : cond (eqb a n) (weight n) 0 ≡ 0 = rw (ne_eqb a n other) refl in
      omega (arith, before, here))
]

-- member m has a place below `bound` that passes
abbrev pub members_with : (ℕ → ℕ) → ℕ → (ℕ → Bool) → ℕ → Bool
members_with creator bound test m = some_below bound (λ x. test x && eqb (creator x) m)

-- places of different members weigh no more than these members
pub weight_below-members : (weight creator : ℕ → ℕ) (n bound : ℕ) (test : ℕ → Bool) →
    ((x : ℕ) → x < bound → test x ≡ true → creator x < n) →
    ((x y : ℕ) → x < bound → y < bound → test x ≡ true → test y ≡ true → creator x ≡ creator y → x ≡ y) →
    weight_below (λ x. weight (creator x)) bound test ≤ weight_below weight n (members_with creator bound test)
unfolding weight_below some_below
weight_below-members weight creator n zero test fits apart = omega arith
weight_below-members weight creator n (suc bound) test fits apart =
    let m : ℕ = creator bound in
    let old : ℕ → Bool = members_with creator bound test in
    let all : ℕ → Bool = members_with creator (suc bound) test in
    let before = weight_below-members weight creator n bound test (λ x h. fits x (omega arith)) (λ x y hx hy. apart x y (omega arith) (omega arith)) in
    elim (cases_Bool (test bound)) [
      | inl passes ↦
          (let here : cond (test bound) (weight m) 0 ≡ weight m = rw passes refl in
          let single = weight_below_one weight n m (fits bound (omega arith) passes) in
          let fresh : weight_below weight n (λ k. old k && eqb m k) ≡ 0 = weight_below_none weight n (λ k. old k && eqb m k) (λ k h e.
          let parts = and_parts (old k) (eqb m k) e in
          let x = some_below_found bound (λ x. test x && eqb (creator x) k) parts.0 in
          let by_k = and_parts (test x.0) (eqb (creator x.0) k) x.2 in
          let low : x.0 < bound = x.1 in
          let same : x.0 ≡ bound = apart x.0 bound (omega arith) (omega arith) by_k.0 passes (eqb-true (creator x.0) k by_k.1 ∙ sym (eqb-true m k parts.1)) in
          absurd (omega arith)) in
          let union = weight_below_both weight n old (λ k. eqb m k) in
          let is : weight_below weight n (λ k. old k || eqb m k) ≡ weight_below weight n all =
          weight_below-same weight n (λ k. old k || eqb m k) all (λ k h. rw passes refl) in
          omega (arith, before, here, single, fresh, union, is))
      | inr fails ↦
          (let here : cond (test bound) (weight m) 0 ≡ 0 = rw fails refl in
          let is : weight_below weight n old ≡ weight_below weight n all = weight_below-same weight n old all (λ k h. rw fails (sym (or-false (old k)))) in
          omega (arith, before, here, is))
    ]
