-- Weights of places and of what a function makes of them
use Rattle.std.proofs.Common.{◌≡◌, ◌≢◌, ℕ, zero, suc, ◌<◌, ◌≤◌, Bool, true, cond, ◌&&◌, not, eqb, sym, refl, ap, ◌∙◌, subst, inl, inr, arith}
use Rattle.std.proofs.lemmas.Bool.{cases_Bool, cases_eq, and_parts, and_from, eqb-true, eq-eqb, not-true, both_ways}
use Rattle.hg_model.specs.Places.{weight_below, count_below, some_below}
use Rattle.hg_model.proofs.PlacesLaws.{weight_below_none, count_below-le, some_below_from, some_below_found}
use Rattle.hg_model.proofs.WeightLaws.{passes_beside, beside_other, weight_below_beside}

-- x stands below m and passes, and y is made of it
abbrev pub IsMadeOf : (ℕ → ℕ) → (ℕ → Bool) → ℕ → ℕ → ℕ → Type 0
IsMadeOf value test m y x = (x < m) × (test x ≡ true) × (value x ≡ y)

-- `value` makes of the places below m that pass the first test just those below n that pass the second, each once
pub record IsImage (value : ℕ → ℕ) (m n : ℕ) (test other : ℕ → Bool) : Type 0 where
  pub into : (x : ℕ) → x < m → test x ≡ true → (value x < n) × (other (value x) ≡ true)
  pub apart : (x y : ℕ) → x < m → y < m → test x ≡ true → test y ≡ true → value x ≡ value y → x ≡ y
  pub onto : (y : ℕ) → y < n → other y ≡ true → (x : ℕ) × IsMadeOf value test m y x

earlier_made : (value : ℕ → ℕ) (test : ℕ → Bool) (m y : ℕ) → ((x : ℕ) × IsMadeOf value test (suc m) y x) → (test m ≡ true → value m ≢ y) → (x : ℕ) × IsMadeOf value test m y x
earlier_made value test m y made differ = elim (cases_eq made.0 m) [
  | inl last ↦ absurd (differ (subst (λ k. test k ≡ true) last made.1.1) (sym (ap value last) ∙ made.1.2))
  | inr other ↦ (let low : made.0 < suc m = made.1.0 in (made.0, (omega arith, made.1.1, made.1.2)))
]

pub weight_below-image : (weight : ℕ → ℕ) (value : ℕ → ℕ) (m n : ℕ) (test other : ℕ → Bool) → IsImage value m n test other →
    weight_below (λ x. weight (value x)) m test ≡ weight_below weight n other
unfolding weight_below
weight_below-image weight value zero n test other image =
    sym (weight_below_none weight n other (λ y h e. let made = image.onto y h e in let low : made.0 < 0 = made.1.0 in omega arith))
weight_below-image weight value (suc m) n test other image = elim (cases_Bool (test m)) [
  | inl passes ↦
      (let last = image.into m (omega arith) passes in
      let rest = weight_below-image weight value m n test (passes_beside other (value m)) (record {
        into = λ x h e.
            let made = image.into x (omega arith) e in (
              made.0,
              beside_other other (value m) (value x) (λ same. let is : x ≡ m = image.apart x m (omega arith) (omega arith) e passes same in absurd (omega arith)) ∙ made.1,
            );
        apart = λ x y hx hy. image.apart x y (omega arith) (omega arith);
        onto = λ y h e.
            let parts = and_parts (other y) (not (eqb y (value m))) e in
            earlier_made value test m y (image.onto y h parts.0) (λ _ same. both_ways (eqb y (value m)) (not-true (eqb y (value m)) parts.1) (eq-eqb y (value m) (sym same)));
      }) in
      let here : cond (test m) (weight (value m)) 0 ≡ weight (value m) = rw passes refl in
      omega (arith, rest, here, weight_below_beside weight n other (value m) last.0 last.1))
  | inr fails ↦
      (let rest = weight_below-image weight value m n test other (record {
        into = λ x h. image.into x (omega arith);
        apart = λ x y hx hy. image.apart x y (omega arith) (omega arith);
        onto = λ y h e. earlier_made value test m y (image.onto y h e) (λ passes _. both_ways (test m) fails passes);
      }) in
      let here : cond (test m) (weight (value m)) 0 ≡ 0 = rw fails refl in
      omega (arith, rest, here))
]

-- of places that differ in a number below n there are n at most
pub count_below-apart : (value : ℕ → ℕ) (m n : ℕ) (test : ℕ → Bool) → ((x : ℕ) → x < m → value x < n) →
    ((x y : ℕ) → x < m → y < m → test x ≡ true → test y ≡ true → value x ≡ value y → x ≡ y) → count_below m test ≤ n
count_below-apart value m n test low apart =
    let made : ℕ → ℕ → Bool = λ y x. test x && eqb (value x) y in
    let image : ℕ → Bool = λ y. some_below m (made y) in
    let same = weight_below-image (λ _. 1) value m n test image (record {
      into = λ x h e. (low x h, some_below_from m (made (value x)) x h (and_from (test x) (eqb (value x) (value x)) e (eq-eqb (value x) (value x) refl)));
      apart = apart;
      onto = λ y h e.
          let found = some_below_found m (made y) e in
          let parts = and_parts (test found.0) (eqb (value found.0) y) found.2 in
          (found.0, (found.1, parts.0, eqb-true (value found.0) y parts.1));
    }) in
    omega (arith, same, count_below-le n image)
