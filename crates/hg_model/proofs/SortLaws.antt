-- Sorting: what a sort of std leaves is `sort_by`; ties that a second test breaks as the list stands; median
use Rattle.std.proofs.Common.{◌≡◌, ℕ, suc, ◌-◌, ◌/◌, ◌<◌, ◌≤◌, Bool, true, false, cond, not, List, [], ◌∷◌, ◌++◌, length, map, get_or, sum_by, IsPermutation, IsSorted, IsSortedBy, nat_cmp, is_lt, is_eq, Ordering, ltb, eqb, sym, refl, ap, ap₂, ◌∙◌, inl, inr, arith}
use Rattle.std.specs.List.{AllByRecursion}
use Rattle.std.specs.Cmp.{IsStrictWeakOrder, IsTotalOrder}
use Rattle.std.specs.Ordering.{ordering_reverse}
use Rattle.std.proofs.lemmas.Bool.{cases_Bool, both_ways, not_from_false, not_from_true, false_from_ne_true, true_from_ne_false, ltb-false}
use Rattle.std.proofs.Math.Path.{fun_ext}
use Rattle.std.proofs.lemmas.Cmp.{nat_cmp_total, ranked}
use Rattle.std.proofs.lemmas.List.Sums.{sum_by-cons}
use Rattle.std.proofs.lemmas.List.Sorted.{sorted_far, sum_by-IsPermutation, length_permutation, ranks_by, IsStrictWeakOrder-by_number}
use Rattle.hg_model.specs.Order.{insert_by, sort_by, median}

-- the relation holds of each element with each later one
abbrev pub IsPairwise : {A : Type 0} → (A → A → Type 0) → List A → Type 0
IsPairwise related [] = Unit {0}
IsPairwise related (x ∷ xs) = AllByRecursion (related x) xs × IsPairwise related xs

-- nothing later is less
abbrev pub IsAscending : {A : Type 0} → (A → A → Bool) → List A → Type 0
IsAscending less xs = IsPairwise (λ x y. less y x ≡ false) xs

-- the same elements as often: each weight has the same sum
abbrev pub HasSameSums : {A : Type 0} → List A → List A → Type 0
HasSameSums {A} xs ys = (weight : A → ℕ) → sum_by weight xs ≡ sum_by weight ys

all_from_places : {A : Type 0} (P : A → Type 0) (xs : List A) → ((k : ℕ) (d : A) → k < length xs → P (get_or xs k d)) → AllByRecursion P xs
all_from_places P [] at = tt
all_from_places P (x ∷ xs) at = (at 0 x (omega arith), all_from_places P xs (λ k d h. at (suc k) d (omega arith)))

ascending_from_places : {A : Type 0} (less : A → A → Bool) (xs : List A) →
    ((i j : ℕ) (d : A) → i ≤ j → j < length xs → less (get_or xs j d) (get_or xs i d) ≡ false) → IsAscending less xs
ascending_from_places less [] at = tt
ascending_from_places less (x ∷ xs) at = (
  all_from_places (λ y. less y x ≡ false) xs (λ k d h. at 0 (suc k) d (omega arith) (omega arith)),
  ascending_from_places less xs (λ i j d le h. at (suc i) (suc j) d (omega arith) (omega arith)),
)

-- one list in ascending order for each collection of elements

passes_nowhere : {A : Type 0} (test : A → Bool) (xs : List A) → AllByRecursion (λ x. test x ≡ false) xs → sum_by (λ x. cond (test x) 1 0) xs ≡ 0
passes_nowhere test [] all = refl
passes_nowhere test (x ∷ xs) all =
    let v : ℕ = cond (test x) 1 0 in
    let here : v ≡ 0 = rw all.0 in
    omega (arith, sum_by-cons (λ x. cond (test x) 1 0) x xs, here, passes_nowhere test xs all.1)

-- what is above y's list is above x, where x is less than y
all_above : {A : Type 0} (less : A → A → Bool) → IsStrictWeakOrder less → (x y : A) (ys : List A) → less x y ≡ true →
    AllByRecursion (λ z. less z y ≡ false) ys → AllByRecursion (λ z. not (less x z) ≡ false) ys
all_above less order x y [] h all = tt
all_above less order x y (z ∷ zs) h all = (
  not_from_true (less x z) (true_from_ne_false (less x z) (λ e. both_ways (less x y) (order.chain x z y e all.0) h)),
  all_above less order x y zs h all.1,
)

-- of two lists with the same elements the first's head is not less than the head of the second, which ascends
head_not_less : {A : Type 0} (less : A → A → Bool) → IsStrictWeakOrder less → (x y : A) (xs ys : List A) →
    IsAscending less (y ∷ ys) → HasSameSums (x ∷ xs) (y ∷ ys) → less x y ≡ false
head_not_less {A} less order x y xs ys up same = false_from_ne_true (less x y) (λ h.
    let weight : A → ℕ = λ z. cond (not (less x z)) 1 0 in
    let none = passes_nowhere (λ z. not (less x z)) (y ∷ ys) (not_from_true (less x y) h, all_above less order x y ys h up.0) in
    let itself : less x x ≡ false = false_from_ne_true (less x x) (λ e. both_ways (less x x) (order.one_way x x e) e) in
    let here : weight x ≡ 1 = rw (not_from_false (less x x) itself) in
    absurd (omega (arith, same weight, none, sum_by-cons weight x xs, here)))

-- where elements that tie are equal
pub one_ascending : {A : Type 0} (less : A → A → Bool) → IsStrictWeakOrder less → ((a b : A) → less a b ≡ false → less b a ≡ false → a ≡ b) →
    (xs ys : List A) → IsAscending less xs → IsAscending less ys → HasSameSums xs ys → xs ≡ ys
one_ascending less order ties [] [] up_xs up_ys same = refl
one_ascending less order ties [] (y ∷ ys) up_xs up_ys same = absurd (omega (arith, same (λ _. 1), sum_by-cons (λ _. 1) y ys))
one_ascending less order ties (x ∷ xs) [] up_xs up_ys same = absurd (omega (arith, same (λ _. 1), sum_by-cons (λ _. 1) x xs))
one_ascending less order ties (x ∷ xs) (y ∷ ys) up_xs up_ys same =
    let head = ties x y (head_not_less less order x y xs ys up_ys same) (head_not_less less order y x ys xs up_xs (λ weight. sym (same weight))) in
    let rest = one_ascending less order ties xs ys up_xs.1 up_ys.1
    (λ weight. omega (arith, same weight, sum_by-cons weight x xs, sum_by-cons weight y ys, ap weight head)) in
    cc

-- what `insert_by` and `sort_by` give

all_inserted : {A : Type 0} (P : A → Type 0) (less : A → A → Bool) (x : A) (ys : List A) → P x → AllByRecursion P ys → AllByRecursion P (insert_by less x ys)
all_inserted P less x [] here all = (here, tt)
all_inserted P less x (y ∷ ys) here all = elim (cases_Bool (less y x)) [
  | inl after ↦ (let is : insert_by less x (y ∷ ys) ≡ y ∷ insert_by less x ys = rw after in rw is (all.0, all_inserted P less x ys here all.1))
  | inr before ↦ (let is : insert_by less x (y ∷ ys) ≡ x ∷ y ∷ ys = rw before in rw is (here, all))
]

pub all_sorted : {A : Type 0} (P : A → Type 0) (less : A → A → Bool) (xs : List A) → AllByRecursion P xs → AllByRecursion P (sort_by less xs)
unfolding sort_by
all_sorted P less [] all = tt
all_sorted P less (x ∷ xs) all = all_inserted P less x (sort_by less xs) all.0 (all_sorted P less xs all.1)

insert_by-sums : {A : Type 0} (less : A → A → Bool) (x : A) (ys : List A) → HasSameSums (insert_by less x ys) (x ∷ ys)
insert_by-sums less x [] weight = refl
insert_by-sums less x (y ∷ ys) weight = elim (cases_Bool (less y x)) [
  | inl after ↦ (let is : insert_by less x (y ∷ ys) ≡ y ∷ insert_by less x ys = rw after in
      rw is (omega (arith, insert_by-sums less x ys weight, sum_by-cons weight y (insert_by less x ys), sum_by-cons weight x ys, sum_by-cons weight x (y ∷ ys), sum_by-cons weight y ys)))
  | inr before ↦ (let is : insert_by less x (y ∷ ys) ≡ x ∷ y ∷ ys = rw before in rw is refl)
]

pub sort_by-sums : {A : Type 0} (less : A → A → Bool) (xs : List A) → HasSameSums (sort_by less xs) xs
unfolding sort_by
sort_by-sums less [] weight = refl
sort_by-sums less (x ∷ xs) weight =
    omega (arith, insert_by-sums less x (sort_by less xs) weight, sort_by-sums less xs weight, sum_by-cons weight x (sort_by less xs), sum_by-cons weight x xs)

none_below_first : {A : Type 0} (less : A → A → Bool) → IsStrictWeakOrder less → (x y : A) (ys : List A) → less y x ≡ false →
    AllByRecursion (λ z. less z y ≡ false) ys → AllByRecursion (λ z. less z x ≡ false) ys
none_below_first less order x y [] h all = tt
none_below_first less order x y (z ∷ zs) h all = (order.chain z y x all.0 h, none_below_first less order x y zs h all.1)

insert_by-ascending : {A : Type 0} (less : A → A → Bool) → IsStrictWeakOrder less → (x : A) (ys : List A) → IsAscending less ys → IsAscending less (insert_by less x ys)
insert_by-ascending less order x [] up = (tt, tt)
insert_by-ascending less order x (y ∷ ys) up = elim (cases_Bool (less y x)) [
  | inl after ↦ (let is : insert_by less x (y ∷ ys) ≡ y ∷ insert_by less x ys = rw after in
      rw is (all_inserted (λ z. less z y ≡ false) less x ys (order.one_way y x after) up.0, insert_by-ascending less order x ys up.1))
  | inr before ↦ (let is : insert_by less x (y ∷ ys) ≡ x ∷ y ∷ ys = rw before in
      rw is ((before, none_below_first less order x y ys before up.0), up))
]

pub sort_by-ascending : {A : Type 0} (less : A → A → Bool) → IsStrictWeakOrder less → (xs : List A) → IsAscending less (sort_by less xs)
unfolding sort_by
sort_by-ascending less order [] = tt
sort_by-ascending less order (x ∷ xs) = insert_by-ascending less order x (sort_by less xs) (sort_by-ascending less order xs)

-- what a sort of std ensures, of a list whose elements differ in the order, makes the list `sort_by`
pub sort_by_is : {A : Type 0} (less : A → A → Bool) → IsStrictWeakOrder less → ((a b : A) → less a b ≡ false → less b a ≡ false → a ≡ b) →
    (xs ys : List A) → IsPermutation xs ys → IsSortedBy less ys → ys ≡ sort_by less xs
sort_by_is less order ties xs ys moved sorted =
    one_ascending less order ties ys (sort_by less xs) (ascending_from_places less ys (sorted_far less order ys sorted)) (sort_by-ascending less order xs)
    (λ weight. sum_by-IsPermutation weight xs ys moved ∙ sym (sort_by-sums less xs weight))

-- the same by a comparison
pub sort_by_cmp_is : {A : Type 0} (compare : A → A → Ordering) → IsTotalOrder compare → ((a b : A) → is_eq (compare a b) ≡ true → a ≡ b) →
    (xs ys : List A) → IsPermutation xs ys → IsSorted compare ys → ys ≡ sort_by (λ a b. is_lt (compare a b)) xs
sort_by_cmp_is compare order ties xs ys moved sorted =
    sort_by_is (λ a b. is_lt (compare a b)) (ranks_by order (λ x. x)) (λ a b le ge. ties a b (tied (compare a b) (compare b a) (order.antisymm a b) le ge)) xs ys moved sorted
  where
    tied : (o p : Ordering) → o ≡ ordering_reverse p → is_lt o ≡ false → is_lt p ≡ false → is_eq o ≡ true
    tied o p e h k = grind arith

-- numbers

is_lt-nat_cmp : (a b : ℕ) → is_lt (nat_cmp a b) ≡ ltb a b
is_lt-nat_cmp a b = elim (cases_Bool (ltb a b)) [
  | inl less ↦ (let is : is_lt (nat_cmp a b) ≡ true = rw less in is ∙ sym less)
  | inr not_less ↦ elim (cases_Bool (eqb a b)) [
    | inl same ↦ (let is : is_lt (nat_cmp a b) ≡ false = rw (not_less, same) in is ∙ sym not_less)
    | inr differ ↦ (let is : is_lt (nat_cmp a b) ≡ false = rw (not_less, differ) in is ∙ sym not_less)
  ]
]

pub sorted_numbers : (xs ys : List ℕ) → IsPermutation xs ys → IsSorted nat_cmp ys → ys ≡ sort_by ltb xs
sorted_numbers xs ys moved sorted =
    sort_by_cmp_is nat_cmp nat_cmp_total tied xs ys moved sorted ∙ ap (λ less. sort_by less xs) (fun_ext (λ a. fun_ext (λ b. is_lt-nat_cmp a b)))
  where
    tied : (a b : ℕ) → is_eq (nat_cmp a b) ≡ true → a ≡ b
    tied a b e = grind (arith, ranked a b (nat_cmp a b) refl)

pub median_is : (xs ys : List ℕ) → IsPermutation xs ys → IsSorted nat_cmp ys → get_or ys ((length ys - 1) / 2) 0 ≡ median xs
unfolding median
median_is xs ys moved sorted = rw (length_permutation xs ys moved) (ap (λ zs. get_or zs ((length xs - 1) / 2) 0) (sorted_numbers xs ys moved sorted))

-- lists with the same elements sort alike, and have the same median

pub same_sorted : {A : Type 0} (less : A → A → Bool) → IsStrictWeakOrder less → ((a b : A) → less a b ≡ false → less b a ≡ false → a ≡ b) →
    (xs ys : List A) → HasSameSums xs ys → sort_by less xs ≡ sort_by less ys
same_sorted less order ties xs ys same =
    one_ascending less order ties (sort_by less xs) (sort_by less ys) (sort_by-ascending less order xs) (sort_by-ascending less order ys)
    (λ weight. sort_by-sums less xs weight ∙ (same weight ∙ sym (sort_by-sums less ys weight)))

pub sum_of_ones : {A : Type 0} (xs : List A) → sum_by (λ _. 1) xs ≡ length xs
sum_of_ones [] = refl
sum_of_ones (x ∷ xs) = omega (arith, sum_by-cons (λ _. 1) x xs, sum_of_ones xs)

pub same_length : {A : Type 0} (xs ys : List A) → HasSameSums xs ys → length xs ≡ length ys
same_length xs ys same = sym (sum_of_ones xs) ∙ (same (λ _. 1) ∙ sum_of_ones ys)

pub median-same : (xs ys : List ℕ) → HasSameSums xs ys → median xs ≡ median ys
unfolding median
median-same xs ys same =
    let sorted = same_sorted ltb (IsStrictWeakOrder-by_number (λ x. x)) (λ a b le ge. omega (arith, ltb-false a b le, ltb-false b a ge)) xs ys same in
    ap₂ (λ (zs : List ℕ) (k : ℕ). get_or zs ((k - 1) / 2) 0) sorted (same_length xs ys same)

-- two tests that agree of each element against each earlier one sort alike

abbrev pub AgreesBackwards : {A : Type 0} → (A → A → Bool) → (A → A → Bool) → List A → Type 0
AgreesBackwards one two xs = IsPairwise (λ x y. one y x ≡ two y x) xs

insert_by-same : {A : Type 0} (one two : A → A → Bool) (x : A) (ys : List A) → AllByRecursion (λ y. one y x ≡ two y x) ys → insert_by one x ys ≡ insert_by two x ys
insert_by-same one two x [] all = refl
insert_by-same one two x (y ∷ ys) all = rw (all.0, insert_by-same one two x ys all.1) refl

pub sort_by-same : {A : Type 0} (one two : A → A → Bool) (xs : List A) → AgreesBackwards one two xs → sort_by one xs ≡ sort_by two xs
unfolding sort_by
sort_by-same one two [] agrees = refl
sort_by-same one two (x ∷ xs) agrees =
    ap (insert_by one x) (sort_by-same one two xs agrees.1)
    ∙ insert_by-same one two x (sort_by two xs) (all_sorted (λ y. one y x ≡ two y x) two xs agrees.0)

pub IsPairwise-push : {A : Type 0} (related : A → A → Type 0) (xs : List A) (y : A) → IsPairwise related xs → AllByRecursion (λ x. related x y) xs →
    IsPairwise related (xs ++ y ∷ [])
IsPairwise-push related [] y pairs all = (tt, tt)
IsPairwise-push related (x ∷ xs) y pairs all = (pushed xs pairs.0, IsPairwise-push related xs y pairs.1 all.1)
  where
    pushed : (zs : List _) → AllByRecursion (related x) zs → AllByRecursion (related x) (zs ++ y ∷ [])
    pushed [] h = (all.0, tt)
    pushed (z ∷ zs) h = (h.0, pushed zs h.1)

-- a sort of what `value` makes of the elements

insert_by-map : {A B : Type 0} (value : A → B) (less : B → B → Bool) (x : A) (ys : List A) →
    insert_by less (value x) (map value ys) ≡ map value (insert_by (λ a b. less (value a) (value b)) x ys)
insert_by-map value less x [] = refl
insert_by-map value less x (y ∷ ys) = elim (cases_Bool (less (value y) (value x))) [
  | inl after ↦ rw (after, insert_by-map value less x ys) refl
  | inr before ↦ rw before refl
]

pub sort_by-map : {A B : Type 0} (value : A → B) (less : B → B → Bool) (xs : List A) →
    sort_by less (map value xs) ≡ map value (sort_by (λ a b. less (value a) (value b)) xs)
unfolding sort_by
sort_by-map value less [] = refl
sort_by-map value less (x ∷ xs) =
    ap (insert_by less (value x)) (sort_by-map value less xs) ∙ insert_by-map value less x (sort_by (λ a b. less (value a) (value b)) xs)
