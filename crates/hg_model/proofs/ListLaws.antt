-- The laws of lists of what stands at places
use Rattle.std.proofs.Common.{◌≡◌, ℕ, zero, suc, ◌+◌, ◌<◌, ◌≤◌, length, Bool, true, false, cond, ◌&&◌, ◌||◌, not, eqb, List, [], ◌∷◌, ◌++◌, map, sum_by, count_by, sym, refl, ap, ap₂, ◌∙◌, inl, inr, arith, zero-add}
use Rattle.std.specs.List.{AllByRecursion, list_any, list_all, filter}
use Rattle.std.proofs.Math.Bool.{or-false}
use Rattle.std.proofs.lemmas.Bool.{cases_Bool, not_from_false, ne_eqb, or_right}
use Rattle.std.proofs.lemmas.List.{map-append, append-nil, length-append, length_push}
use Rattle.std.proofs.lemmas.List.Elements.{filter-append}
use Rattle.std.proofs.lemmas.List.Folds.{list_any-append}
use Rattle.std.proofs.lemmas.List.Sums.{sum_by-append}
use Rattle.hg_model.specs.Places.{weight_below, count_below, some_below, list_below}
use Rattle.hg_model.proofs.SortLaws.{IsPairwise, IsPairwise-push}

pub map-list_below : {A B : Type 0} (f : A → B) (value : ℕ → A) (n : ℕ) (test : ℕ → Bool) → map f (list_below value n test) ≡ list_below (λ k. f (value k)) n test
unfolding list_below
map-list_below f value zero test = refl
map-list_below f value (suc n) test =
    map-append f (list_below value n test) (cond (test n) (value n ∷ []) [])
    ∙ ap₂ (λ xs ys. xs ++ ys) (map-list_below f value n test) (last (test n))
  where
    last : (b : Bool) → map f (cond b (value n ∷ []) []) ≡ cond b (f (value n) ∷ []) []
    last true = refl
    last false = refl

-- those of a list of places whose values pass a second test
pub filter-list_below : {A : Type 0} (test : A → Bool) (value : ℕ → A) (n : ℕ) (passes : ℕ → Bool) →
    filter test (list_below value n passes) ≡ list_below value n (λ k. passes k && test (value k))
unfolding list_below
filter-list_below test value zero passes = refl
filter-list_below {A} test value (suc n) passes =
    filter-append test (list_below value n passes) (cond (passes n) (value n ∷ []) [])
    ∙ ap₂ (λ (xs ys : List A). xs ++ ys) (filter-list_below test value n passes) (last (passes n))
  where
    last : (b : Bool) → filter test (cond b (value n ∷ []) []) ≡ cond (b && test (value n)) (value n ∷ []) []
    last true = refl
    last false = refl

-- the sum over a list of places is a sum by places
pub sum_by-list_below : {A : Type 0} (weight : A → ℕ) (value : ℕ → A) (n : ℕ) (test : ℕ → Bool) →
    sum_by weight (list_below value n test) ≡ weight_below (λ k. weight (value k)) n test
unfolding list_below weight_below
sum_by-list_below weight value zero test = refl
sum_by-list_below weight value (suc n) test =
    sum_by-append weight (list_below value n test) (cond (test n) (value n ∷ []) [])
    ∙ ap₂ (λ (a b : ℕ). a + b) (sum_by-list_below weight value n test) (last (test n))
  where
    last : (b : Bool) → sum_by weight (cond b (value n ∷ []) []) ≡ cond b (weight (value n)) 0
    last true = zero-add (weight (value n))
    last false = refl

-- a count over a list of places is a count by places
one_if : Bool → ℕ
one_if b = cond b 1 0

one_if-and : (a b : Bool) → cond a (one_if b) 0 ≡ one_if (a && b)
unfolding one_if
one_if-and true b = refl
one_if-and false b = refl

pub count_by-list_below : (passes : ℕ → Bool) (n : ℕ) (test : ℕ → Bool) → count_by passes (list_below (λ k. k) n test) ≡ count_below n (λ k. test k && passes k)
unfolding weight_below one_if
count_by-list_below passes n test = sum_by-list_below (λ k. cond (passes k) 1 0) (λ k. k) n test ∙ as_count n
  where
    as_count : (m : ℕ) → weight_below (λ k. cond (passes k) 1 0) m test ≡ count_below m (λ k. test k && passes k)
    as_count zero = refl
    as_count (suc m) = ap₂ (λ (a b : ℕ). a + b) (as_count m) (one_if-and (test m) (passes m))

pub length-list_below-le : {A : Type 0} (value : ℕ → A) (n : ℕ) (test : ℕ → Bool) → length (list_below value n test) ≤ n
unfolding list_below
length-list_below-le value zero test = omega arith
length-list_below-le value (suc n) test =
    omega (arith, length-append (list_below value n test) (cond (test n) (value n ∷ []) []), length-list_below-le value n test, last (test n))
  where
    last : (b : Bool) → length (cond b (value n ∷ []) []) ≤ 1
    last true = omega arith
    last false = omega arith

pub all_list_below : {A : Type 0} (P : A → Type 0) (value : ℕ → A) (n : ℕ) (test : ℕ → Bool) → ((k : ℕ) → k < n → test k ≡ true → P (value k)) →
    AllByRecursion P (list_below value n test)
unfolding list_below
all_list_below P value zero test at = tt
all_list_below P value (suc n) test at = pushed (test n) refl (all_list_below P value n test (λ k h e. at k (omega arith) e))
  where
    joined : (xs ys : List _) → AllByRecursion P xs → AllByRecursion P ys → AllByRecursion P (xs ++ ys)
    joined [] ys all_xs all_ys = all_ys
    joined (x ∷ xs) ys all_xs all_ys = (all_xs.0, joined xs ys all_xs.1 all_ys)

    pushed : (b : Bool) → test n ≡ b → AllByRecursion P (list_below value n test) → AllByRecursion P (list_below value n test ++ cond b (value n ∷ []) [])
    pushed true e before = joined _ _ before (at n (omega arith) e, tt)
    pushed false e before = joined _ _ before tt

-- some element of a list of places passes where some place does
pub list_any-list_below : (passes : ℕ → Bool) (n : ℕ) (test : ℕ → Bool) → list_any passes (list_below (λ k. k) n test) ≡ some_below n (λ k. test k && passes k)
unfolding list_below some_below
list_any-list_below passes zero test = refl
list_any-list_below passes (suc n) test =
    list_any-append passes (list_below (λ k. k) n test) (cond (test n) (n ∷ []) [])
    ∙ ap₂ (λ a b. a || b) (list_any-list_below passes n test) (last (test n) (passes n))
  where
    last : (a b : Bool) → list_any passes (cond a (n ∷ []) []) ≡ (a && passes n)
    last true b = or-false (passes n)
    last false b = refl

list_all-from_any : {A : Type 0} (test : A → Bool) (xs : List A) → list_all test xs ≡ not (list_any (λ x. not (test x)) xs)
list_all-from_any test [] = refl
list_all-from_any test (x ∷ xs) = elim (cases_Bool (test x)) [
  | inl passes ↦ rw (passes, list_all-from_any test xs) refl
  | inr fails ↦ rw fails refl
]

-- all elements of a list of places pass where no place fails
pub list_all-list_below : (passes : ℕ → Bool) (n : ℕ) (test : ℕ → Bool) →
    list_all passes (list_below (λ k. k) n test) ≡ not (some_below n (λ k. test k && not (passes k)))
list_all-list_below passes n test =
    list_all-from_any passes (list_below (λ k. k) n test) ∙ ap not (list_any-list_below (λ k. not (passes k)) n test)

-- what holds of the values at each two places holds of each element with each later one
pub IsPairwise-list_below : {A : Type 0} (related : A → A → Type 0) (value : ℕ → A) (n : ℕ) (test : ℕ → Bool) →
    ((j k : ℕ) → j < k → related (value j) (value k)) → IsPairwise related (list_below value n test)
unfolding list_below
IsPairwise-list_below related value zero test at = tt
IsPairwise-list_below related value (suc n) test at = pushed (test n) (IsPairwise-list_below related value n test at)
  where
    pushed : (b : Bool) → IsPairwise related (list_below value n test) → IsPairwise related (list_below value n test ++ cond b (value n ∷ []) [])
    pushed true before =
        IsPairwise-push related (list_below value n test) (value n) before (all_list_below (λ x. related x (value n)) value n test (λ k h e. at k n h))
    pushed false before = rw (append-nil (list_below value n test)) before

-- a list of places is empty where no place passes
pub none-list_below : {A : Type 0} (value : ℕ → A) (n : ℕ) (test : ℕ → Bool) → not (eqb (length (list_below value n test)) 0) ≡ some_below n test
unfolding list_below some_below
none-list_below value zero test = refl
none-list_below value (suc n) test = elim (cases_Bool (test n)) [
  | inl passes ↦ (let some : not (eqb (length (list_below value n test ++ value n ∷ [])) 0) ≡ true =
      not_from_false _ (ne_eqb _ _ (λ e. absurd (omega (arith, e, length_push (list_below value n test) (value n))))) in
      rw passes (some ∙ sym (or_right (some_below n test) true refl)))
  | inr fails ↦ rw (fails, append-nil (list_below value n test)) (none-list_below value n test ∙ sym (or-false (some_below n test)))
]
