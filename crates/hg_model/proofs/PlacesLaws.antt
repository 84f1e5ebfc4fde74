-- The laws of recursion, search, counts and lists over places
use Rattle.std.proofs.Common.{◌≡◌, ℕ, zero, suc, ◌+◌, ◌<◌, ◌≤◌, Bool, true, false, cond, ◌||◌, ltb, max, List, [], ◌∷◌, ◌++◌, length, get_or, Some, None, sym, refl, ap, ap₂, ◌∙◌, inl, inr, arith, add-one, add-zero, lt-ltb, le-ltb}
use Rattle.std.proofs.Math.Path.{fun_ext}
use Rattle.std.proofs.lemmas.List.{length_push, get_or_append_left, get_or_push, get_or_past, append-nil}
use Rattle.std.proofs.lemmas.Bool.{cases_lt, cases_eq, or_cases, or_left, or_right, true≢false, false_from_ne_true, cases_Bool}
use Rattle.hg_model.specs.Places.{weight_below, count_below, some_below, list_below, lesser_of, least_below, greatest_below, maximum_below, values_below, by_place}
use Rattle.hg_model.specs.Stakes.{Stakes, stake_where, total}

-- recursion over places

pub length-values_below : {A : Type 0} (default : A) (step : (ℕ → A) → ℕ → A) (n : ℕ) → length (values_below default step n) ≡ n
unfolding values_below
length-values_below default step zero = refl
length-values_below default step (suc n) =
    let before = values_below default step n in
    let last = step (λ k. get_or before k default) n in
    length_push before last ∙ (ap (λ k. k + 1) (length-values_below default step n) ∙ add-one n)

-- a longer list of values keeps those of a shorter one
get_or-values_below_more : {A : Type 0} (default : A) (step : (ℕ → A) → ℕ → A) (n k : ℕ) → k < n →
    get_or (values_below default step (suc n)) k default ≡ get_or (values_below default step n) k default
unfolding values_below
get_or-values_below_more default step n k h =
    let before = values_below default step n in
    get_or_append_left before (step (λ j. get_or before j default) n ∷ []) default k (rw length-values_below h)

pub get_or-values_below : {A : Type 0} (default : A) (step : (ℕ → A) → ℕ → A) (n k : ℕ) → k < n →
    get_or (values_below default step n) k default ≡ by_place default step k
get_or-values_below default step zero k h = absurd (omega arith)
get_or-values_below default step (suc n) k h = elim (cases_lt k n) [
  | inl below ↦ get_or-values_below_more default step n k below ∙ get_or-values_below default step n k below
  | inr last ↦ (let e : k ≡ n = omega arith in rw e (unfold by_place in refl))
]

-- the values at the places below x, and the default from x on
abbrev pub only_below : {A : Type 0} → A → ℕ → (ℕ → A) → ℕ → A
only_below default x value k = cond (ltb k x) (value k) default

pub only_below-at : {A : Type 0} (default : A) (x : ℕ) (value : ℕ → A) (k : ℕ) → k < x → only_below default x value k ≡ value k
only_below-at default x value k h = rw (lt-ltb k x h)

values_below-only : {A : Type 0} (default : A) (step : (ℕ → A) → ℕ → A) (x k : ℕ) →
    get_or (values_below default step x) k default ≡ only_below default x (by_place default step) k
values_below-only default step x k = elim (cases_lt k x) [
  | inl below ↦ rw (lt-ltb k x below) (get_or-values_below default step x k below)
  | inr past ↦ rw (le-ltb k x past) (get_or_past (values_below default step x) k default (rw length-values_below past))
]

-- the equation of a recursion over places
pub by_place-at : {A : Type 0} (default : A) (step : (ℕ → A) → ℕ → A) (x : ℕ) →
    by_place default step x ≡ step (only_below default x (by_place default step)) x
unfolding by_place values_below
by_place-at default step x =
    get_or_push (values_below default step x) (step (λ k. get_or (values_below default step x) k default) x) default x (length-values_below default step x)
    ∙ ap (λ value. step value x) (fun_ext (values_below-only default step x))

-- two recursions whose steps agree below n agree below n
values_below-same : {A : Type 0} (default : A) (one two : (ℕ → A) → ℕ → A) (n : ℕ) → ((value : ℕ → A) (x : ℕ) → x < n → one value x ≡ two value x) →
    (m : ℕ) → m ≤ n → values_below default one m ≡ values_below default two m
unfolding values_below
values_below-same default one two n same zero h = refl
values_below-same default one two n same (suc m) h =
    ap (λ before. before ++ (one (λ k. get_or before k default) m ∷ [])) (values_below-same default one two n same m (omega arith))
    ∙ ap (λ last. values_below default two m ++ (last ∷ [])) (same (λ k. get_or (values_below default two m) k default) m (omega arith))

pub by_place-same : {A : Type 0} (default : A) (one two : (ℕ → A) → ℕ → A) (n : ℕ) → ((value : ℕ → A) (x : ℕ) → x < n → one value x ≡ two value x) →
    (x : ℕ) → x < n → by_place default one x ≡ by_place default two x
unfolding by_place
by_place-same default one two n same x h = ap (λ values. get_or values x default) (values_below-same default one two n same (suc x) h)

-- some_below

pub some_below_from : (n : ℕ) (test : ℕ → Bool) (k : ℕ) → k < n → test k ≡ true → some_below n test ≡ true
unfolding some_below
some_below_from zero test k h e = absurd (omega arith)
some_below_from (suc n) test k h e = elim (cases_lt k n) [
  | inl below ↦ or_left (some_below n test) (test n) (some_below_from n test k below e)
  | inr last ↦ (let same : k ≡ n = omega arith in or_right (some_below n test) (test n) (rw same at e))
]

pub some_below_found : (n : ℕ) (test : ℕ → Bool) → some_below n test ≡ true → (k : ℕ) × (k < n) × (test k ≡ true)
unfolding some_below
some_below_found zero test e = absurd (true≢false (sym e))
some_below_found (suc n) test e = elim (or_cases (some_below n test) (test n) e) [
  | inl below ↦ (let found = some_below_found n test below in (found.0, omega (arith, found.1), found.2))
  | inr last ↦ (n, omega arith, last)
]

pub some_below-same : (n : ℕ) (one two : ℕ → Bool) → ((k : ℕ) → k < n → one k ≡ two k) → some_below n one ≡ some_below n two
unfolding some_below
some_below-same zero one two same = refl
some_below-same (suc n) one two same =
    let first = some_below-same n one two (λ k h. same k (omega arith)) in
    let last = same n (omega arith) in
    cc

pub some_below_none : (n : ℕ) (test : ℕ → Bool) → ((k : ℕ) → k < n → test k ≡ true → ⊥) → some_below n test ≡ false
some_below_none n test none = false_from_ne_true (some_below n test) (λ e.
    let found = some_below_found n test e in none found.0 found.1 found.2)

-- the steps of a loop that searches

pub some_below_zero : (test : ℕ → Bool) → some_below 0 test ≡ false
unfolding some_below
some_below_zero test = refl

pub some_below_next : (n : ℕ) (test : ℕ → Bool) → some_below (n + 1) test ≡ (some_below n test || test n)
unfolding some_below
some_below_next n test = rw (add-one n) refl

pub ruleset some_steps = (some_below_zero, some_below_next, some_below_from)

-- weight_below

pub weight_below-same : (weight : ℕ → ℕ) (n : ℕ) (one two : ℕ → Bool) → ((k : ℕ) → k < n → one k ≡ two k) → weight_below weight n one ≡ weight_below weight n two
unfolding weight_below
weight_below-same weight zero one two same = refl
weight_below-same weight (suc n) one two same =
    let first = weight_below-same weight n one two (λ k h. same k (omega arith)) in
    let last = same n (omega arith) in
    cc

weight_step-le : (a b : Bool) (v : ℕ) → (a ≡ true → b ≡ true) → cond a v 0 ≤ cond b v 0
weight_step-le a b v h = grind arith

-- a weaker test weighs no less
pub weight_below-equal : (one two : ℕ → ℕ) (n : ℕ) (test : ℕ → Bool) → ((k : ℕ) → k < n → one k ≡ two k) → weight_below one n test ≡ weight_below two n test
unfolding weight_below
weight_below-equal one two zero test same = refl
weight_below-equal one two (suc n) test same =
    ap₂ (λ a b. a + b) (weight_below-equal one two n test (λ k h. same k (omega arith))) (ap (λ w. cond (test n) w 0) (same n (omega arith)))

pub weight_below-le : (weight : ℕ → ℕ) (n : ℕ) (one two : ℕ → Bool) → ((k : ℕ) → k < n → one k ≡ true → two k ≡ true) →
    weight_below weight n one ≤ weight_below weight n two
unfolding weight_below
weight_below-le weight zero one two h = omega arith
weight_below-le weight (suc n) one two h =
    omega (arith, weight_below-le weight n one two (λ k l. h k (omega arith)), weight_step-le (one n) (two n) (weight n) (h n (omega arith)))

pub weight_below_found : (weight : ℕ → ℕ) (n : ℕ) (test : ℕ → Bool) → 0 < weight_below weight n test → (k : ℕ) × (k < n) × (test k ≡ true)
unfolding weight_below
weight_below_found weight zero test h = absurd (omega arith)
weight_below_found weight (suc n) test h = elim (cases_Bool (test n)) [
  | inl passes ↦ (n, omega arith, passes)
  | inr fails ↦ (let e : cond (test n) (weight n) 0 ≡ 0 = rw fails in
      let found = weight_below_found weight n test (omega arith) in (found.0, omega (arith, found.1), found.2))
]

pub weight_below_none : (weight : ℕ → ℕ) (n : ℕ) (test : ℕ → Bool) → ((k : ℕ) → k < n → test k ≡ true → ⊥) → weight_below weight n test ≡ 0
unfolding weight_below
weight_below_none weight zero test none = refl
weight_below_none weight (suc n) test none =
    let last : cond (test n) (weight n) 0 ≡ 0 = rw (false_from_ne_true (test n) (none n (omega arith))) in
    omega (arith, weight_below_none weight n test (λ k h. none k (omega arith)), last)

-- more places, and a weaker test, weigh no less
pub weight_below_grows : (weight : ℕ → ℕ) (n m : ℕ) (one two : ℕ → Bool) → n ≤ m → ((k : ℕ) → k < n → one k ≡ true → two k ≡ true) →
    weight_below weight n one ≤ weight_below weight m two
unfolding weight_below
weight_below_grows weight n zero one two le h = let none : n ≡ 0 = omega arith in rw none (omega arith)
weight_below_grows weight n (suc m) one two le h = elim (cases_lt m n) [
  | inl all ↦ (let same : n ≡ suc m = omega arith in
      rw same (weight_below-le weight (suc m) one two (λ k hk. h k (omega arith))))
  | inr fewer ↦ omega (arith, weight_below_grows weight n m one two (omega arith) h)
]

-- where no later place passes, the weight is that of the first places
pub weight_below-longer : (weight : ℕ → ℕ) (len n : ℕ) (test : ℕ → Bool) → len ≤ n → ((k : ℕ) → len ≤ k → k < n → test k ≡ false) →
    weight_below weight n test ≡ weight_below weight len test
unfolding weight_below
weight_below-longer weight len zero test le none = (let same : len ≡ 0 = omega arith in rw same refl)
weight_below-longer weight len (suc n) test le none = elim (cases_lt n len) [
  | inl all ↦ (let same : len ≡ suc n = omega arith in rw same refl)
  | inr later ↦ rw (none n later (omega arith)) (omega (arith, weight_below-longer weight len n test later (λ k from h. none k from (omega arith))))
]

pub weight_below-all : (weight : ℕ → ℕ) (n : ℕ) (test : ℕ → Bool) → weight_below weight n test ≤ weight_below weight n (λ _. true)
weight_below-all weight n test = weight_below-le weight n test (λ _. true) (λ k l e. refl)

pub count_below-all : (n : ℕ) → count_below n (λ _. true) ≡ n
unfolding weight_below
count_below-all zero = refl
count_below-all (suc n) = omega (arith, count_below-all n)

-- the stake of all members, as a weight

pub total-all : (n : Stakes) → total n ≡ stake_where n (λ _. true)
unfolding total
total-all n = refl

-- the steps of a loop that counts or weighs

pub weight_below_zero : (weight : ℕ → ℕ) (test : ℕ → Bool) → weight_below weight 0 test ≡ 0
unfolding weight_below
weight_below_zero weight test = refl

pub weight_below_passes : (weight : ℕ → ℕ) (n : ℕ) (test : ℕ → Bool) → test n ≡ true → weight_below weight (n + 1) test ≡ weight_below weight n test + weight n
unfolding weight_below
weight_below_passes weight n test h = rw (add-one n) (ap (λ b. weight_below weight n test + cond b (weight n) 0) h)

pub weight_below_fails : (weight : ℕ → ℕ) (n : ℕ) (test : ℕ → Bool) → test n ≡ false → weight_below weight (n + 1) test ≡ weight_below weight n test
unfolding weight_below
weight_below_fails weight n test h =
    rw (add-one n) (ap (λ b. weight_below weight n test + cond b (weight n) 0) h ∙ add-zero (weight_below weight n test))

pub ruleset weight_steps = (weight_below_zero, weight_below_passes, weight_below_fails)

pub count_below-le : (n : ℕ) (test : ℕ → Bool) → count_below n test ≤ n
count_below-le n test = omega (arith, weight_below-all (λ _. 1) n test, count_below-all n)

pub count_below_zero : (test : ℕ → Bool) → count_below 0 test ≡ 0
count_below_zero test = weight_below_zero (λ _. 1) test

pub count_below_passes : (n : ℕ) (test : ℕ → Bool) → test n ≡ true → count_below (n + 1) test ≡ count_below n test + 1
count_below_passes n test h = weight_below_passes (λ _. 1) n test h

pub count_below_fails : (n : ℕ) (test : ℕ → Bool) → test n ≡ false → count_below (n + 1) test ≡ count_below n test
count_below_fails n test h = weight_below_fails (λ _. 1) n test h

pub ruleset count_steps = (count_below_zero, count_below_passes, count_below_fails, count_below-le)

-- the steps of a loop that makes a list

pub list_below_zero : {A : Type 0} (value : ℕ → A) (test : ℕ → Bool) → list_below value 0 test ≡ []
unfolding list_below
list_below_zero value test = refl

pub list_below_passes : {A : Type 0} (value : ℕ → A) (n : ℕ) (test : ℕ → Bool) → test n ≡ true → list_below value (n + 1) test ≡ list_below value n test ++ value n ∷ []
unfolding list_below
list_below_passes value n test h = rw (add-one n) (ap (λ b. list_below value n test ++ cond b (value n ∷ []) []) h)

pub list_below_fails : {A : Type 0} (value : ℕ → A) (n : ℕ) (test : ℕ → Bool) → test n ≡ false → list_below value (n + 1) test ≡ list_below value n test
unfolding list_below
list_below_fails value n test h =
    rw (add-one n) (ap (λ b. list_below value n test ++ cond b (value n ∷ []) []) h ∙ append-nil (list_below value n test))

pub list_below-same : {A : Type 0} (one two : ℕ → A) (n : ℕ) (test other : ℕ → Bool) → ((k : ℕ) → k < n → test k ≡ other k) → ((k : ℕ) → k < n → test k ≡ true → one k ≡ two k) →
    list_below one n test ≡ list_below two n other
unfolding list_below
list_below-same one two zero test other same values = refl
list_below-same one two (suc n) test other same values =
    let before = list_below-same one two n test other (λ k h. same k (omega arith)) (λ k h. values k (omega arith)) in
    let last = same n (omega arith) in
    elim (cases_Bool (test n)) [
      | inl passes ↦ (let value = values n (omega arith) passes in
          rw (before, ← last, passes, value) refl)
      | inr fails ↦ rw (before, ← last, fails) refl
    ]

pub ruleset list_steps = (list_below_zero, list_below_passes, list_below_fails)

-- where no later place passes, the list is that of the first places
pub list_below-longer : {A : Type 0} (value : ℕ → A) (len : ℕ) (n : ℕ) (f : ℕ → Bool) → len ≤ n → ((k : ℕ) → len ≤ k → k < n → f k ≡ false) → list_below value n f ≡ list_below value len f
unfolding list_below
list_below-longer value zero zero f le none = refl
list_below-longer value (suc len) zero f le none = absurd (omega arith)
list_below-longer {A} value len (suc n) f le none = elim (cases_eq len (suc n)) [
  | inl same ↦ ap (λ (k : ℕ). list_below value k f) (sym same)
  | inr other ↦ (ap₂ (λ (xs ys : List A). xs ++ ys) (list_below-longer value len n f (omega arith) (λ k ge low. none k ge (omega arith)))
      (ap (λ (b : Bool). cond b (value n ∷ []) []) (none n (omega arith) (omega arith)))
      ∙ append-nil (list_below value len f))
]

pub list_below_none : {A : Type 0} (value : ℕ → A) (n : ℕ) (test : ℕ → Bool) → ((k : ℕ) → k < n → test k ≡ false) → list_below value n test ≡ []
list_below_none value n test none = list_below-longer value 0 n test (omega arith) (λ k ge low. none k low) ∙ list_below_zero value test

-- the steps of loops that look for the least and the greatest

pub least_below_zero : (key : ℕ → ℕ) (test : ℕ → Bool) → least_below key 0 test ≡ None
unfolding least_below
least_below_zero key test = refl

pub least_below_passes : (key : ℕ → ℕ) (n : ℕ) (test : ℕ → Bool) → test n ≡ true → least_below key (n + 1) test ≡ Some (lesser_of key (least_below key n test) n)
unfolding least_below
least_below_passes key n test h = rw (add-one n, h) refl

pub least_below_fails : (key : ℕ → ℕ) (n : ℕ) (test : ℕ → Bool) → test n ≡ false → least_below key (n + 1) test ≡ least_below key n test
unfolding least_below
least_below_fails key n test h = rw (add-one n, h) refl

pub ruleset least_steps = (least_below_zero, least_below_passes, least_below_fails)

pub greatest_below_zero : (test : ℕ → Bool) → greatest_below 0 test ≡ 0
unfolding greatest_below
greatest_below_zero test = refl

pub greatest_below_passes : (n : ℕ) (test : ℕ → Bool) → test n ≡ true → greatest_below (n + 1) test ≡ n
unfolding greatest_below
greatest_below_passes n test h = rw (add-one n, h) refl

pub greatest_below_fails : (n : ℕ) (test : ℕ → Bool) → test n ≡ false → greatest_below (n + 1) test ≡ greatest_below n test
unfolding greatest_below
greatest_below_fails n test h = rw (add-one n, h) refl

pub ruleset greatest_steps = (greatest_below_zero, greatest_below_passes, greatest_below_fails)

pub maximum_below_zero : (value : ℕ → ℕ) → maximum_below value 0 ≡ 0
unfolding maximum_below
maximum_below_zero value = refl

pub maximum_below_next : (value : ℕ → ℕ) (n : ℕ) → maximum_below value (n + 1) ≡ max (maximum_below value n) (value n)
unfolding maximum_below
maximum_below_next value n = rw (add-one n) refl

pub maximum_below-same : (one two : ℕ → ℕ) (n : ℕ) → ((k : ℕ) → k < n → one k ≡ two k) → maximum_below one n ≡ maximum_below two n
unfolding maximum_below
maximum_below-same one two zero same = refl
maximum_below-same one two (suc n) same =
    let first = maximum_below-same one two n (λ k h. same k (omega arith)) in
    let last = same n (omega arith) in
    cc

pub maximum_below_bounds : (value : ℕ → ℕ) (n k : ℕ) → k < n → value k ≤ maximum_below value n
unfolding maximum_below
maximum_below_bounds value zero k h = absurd (omega arith)
maximum_below_bounds value (suc n) k h = elim (cases_lt k n) [
  | inl before ↦ omega (arith, maximum_below_bounds value n k before)
  | inr last ↦ (let same : value k ≡ value n = ap value (omega arith) in omega arith)
]

pub ruleset maximum_steps = (maximum_below_zero, maximum_below_next)
