-- Recursion, search, counts and lists over the places 0, 1, 2 .. of a list: the only recursions over places
use Rattle.std.specs.Prelude.{ℕ, zero, suc, ◌+◌, ◌<◌, ◌≡◌, Bool, true, false, cond, ◌||◌, ◌==◌, nat_le, max, List, [], ◌∷◌, ◌++◌, get_or, map, Option, Some, None}
use Rattle.std.specs.List.{list_any, range_with_len}

-- the sum of the weights of the places below n that pass the test
unfoldable pub weight_below : (ℕ → ℕ) → ℕ → (ℕ → Bool) → ℕ
weight_below weight zero test = 0
weight_below weight (suc n) test = weight_below weight n test + cond (test n) (weight n) 0

-- how many places below n pass the test
abbrev pub count_below : ℕ → (ℕ → Bool) → ℕ
count_below n test = weight_below (λ _. 1) n test

-- some place below n passes the test
unfoldable pub some_below : ℕ → (ℕ → Bool) → Bool
some_below zero test = false
some_below (suc n) test = some_below n test || test n

-- the values at the places below n that pass the test, in the order of the places
unfoldable pub list_below : {A : Type 0} → (ℕ → A) → ℕ → (ℕ → Bool) → List A
list_below value zero test = []
list_below value (suc n) test = list_below value n test ++ cond (test n) (value n ∷ []) []

-- of two places that which has the lesser key; the first where the keys are equal
abbrev pub lesser_of : (ℕ → ℕ) → Option ℕ → ℕ → ℕ
lesser_of key None later = later
lesser_of key (Some earlier) later = cond (nat_le (key earlier) (key later)) earlier later

-- of the places below n that pass the test that which has the least key; of several the first
unfoldable pub least_below : (ℕ → ℕ) → ℕ → (ℕ → Bool) → Option ℕ
least_below key zero test = None
least_below key (suc n) test =
    cond (test n) (Some (lesser_of key (least_below key n test) n)) (least_below key n test)

-- the greatest number below n that passes the test, or 0
unfoldable pub greatest_below : ℕ → (ℕ → Bool) → ℕ
greatest_below zero test = 0
greatest_below (suc n) test = cond (test n) n (greatest_below n test)

-- the greatest of the values at the places below n, or 0
unfoldable pub maximum_below : (ℕ → ℕ) → ℕ → ℕ
maximum_below value zero = 0
maximum_below value (suc n) = max (maximum_below value n) (value n)

-- the values at the first n places, each made by `step` from the values before it
unfoldable pub values_below : {A : Type 0} → A → ((ℕ → A) → ℕ → A) → ℕ → List A
values_below default step zero = []
values_below default step (suc n) =
    let before = values_below default step n in
    before ++ (step (λ k. get_or before k default) n ∷ [])

-- recursion over places: the value at x is what `step` makes of the values at lower places
unfoldable pub by_place : {A : Type 0} → A → ((ℕ → A) → ℕ → A) → ℕ → A
by_place default step x = get_or (values_below default step (suc x)) x default

-- the values at the places below n
abbrev pub table : {A : Type 0} → (ℕ → A) → ℕ → List A
table value n = map value (range_with_len 0 n)

-- the place is one of these
abbrev pub has_place : List ℕ → ℕ → Bool
has_place places place = list_any (λ p. p == place) places

-- x is y, or y is reached from a lower place that `next` gives at x
unfoldable pub reaches : (ℕ → List ℕ) → ℕ → ℕ → Bool
reaches next x y = by_place false (λ reaches_y x. x == y || list_any reaches_y (next x)) x

-- each place that `next` gives is a lower one
pub record IsEarlier (next : ℕ → List ℕ) : Type 0 where
  pub earlier : (x p : ℕ) → has_place (next x) p ≡ true → p < x
