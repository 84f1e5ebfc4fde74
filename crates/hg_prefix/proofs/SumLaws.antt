-- Lists with the same elements: what folds give of them
use Rattle.std.proofs.Common.{◌≡◌, ℕ, Bool, true, false, List, [], ◌∷◌, ◌++◌, fold, bit_xor, nat_cmp, is_lt, is_eq, Ordering, sym, refl, ap, ap₂, ◌∙◌, inl, inr, arith}
use Rattle.std.specs.Cmp.{IsStrictWeakOrder}
use Rattle.std.specs.Cmp.Lexicographic.{slice_cmp}
use Rattle.std.specs.Int.Bits.{xor_assoc}
use Rattle.std.specs.List.{AllByRecursion}
use Rattle.std.specs.Ordering.{ordering_reverse}
use Rattle.std.proofs.lemmas.Bool.{cases_Bool}
use Rattle.std.proofs.lemmas.Cmp.{nat_list_cmp_total}
use Rattle.std.proofs.lemmas.Nat.{xor_comm}
use Rattle.std.proofs.lemmas.List.Sorted.{ranks_by}
use Rattle.hg_model.specs.Order.{insert_by, sort_by, xor_bytes}
use Rattle.hg_model.proofs.CompareLaws.{slice_cmp-same}
use Rattle.hg_model.proofs.SortLaws.{IsAscending, HasSameSums, same_sorted}

-- bytes in their order

abbrev pub bytes_less : List ℕ → List ℕ → Bool
bytes_less a b = is_lt (slice_cmp nat_cmp a b)

pub bytes_order : IsStrictWeakOrder bytes_less
bytes_order = ranks_by nat_list_cmp_total (λ x. x)

neither_less : (o p : Ordering) → o ≡ ordering_reverse p → is_lt o ≡ false → is_lt p ≡ false → is_eq o ≡ true
neither_less o p turned le ge = grind arith

pub bytes_tie : (a b : List ℕ) → bytes_less a b ≡ false → bytes_less b a ≡ false → a ≡ b
bytes_tie a b le ge =
    slice_cmp-same a b (neither_less (slice_cmp nat_cmp a b) (slice_cmp nat_cmp b a) (nat_list_cmp_total.antisymm a b) le ge)

-- folds that do not mind the order of the elements

fold_inserted : {A B : Type 0} (step : B → A → B) → ((b : B) (x y : A) → step (step b x) y ≡ step (step b y) x) → (less : A → A → Bool) (b : B) (x : A) (ys : List A) →
    fold step b (insert_by less x ys) ≡ fold step (step b x) ys
fold_inserted step swap less b x [] = refl
fold_inserted step swap less b x (y ∷ ys) = elim (cases_Bool (less y x)) [
  | inl after ↦ (let is : insert_by less x (y ∷ ys) ≡ y ∷ insert_by less x ys = rw after refl in
      ap (fold step b) is ∙ (fold_inserted step swap less (step b y) x ys ∙ ap (λ c. fold step c ys) (swap b y x)))
  | inr before ↦ (let is : insert_by less x (y ∷ ys) ≡ x ∷ y ∷ ys = rw before refl in ap (fold step b) is)
]

fold_sorted : {A B : Type 0} (step : B → A → B) → ((b : B) (x y : A) → step (step b x) y ≡ step (step b y) x) → (less : A → A → Bool) (b : B) (xs : List A) →
    fold step b (sort_by less xs) ≡ fold step b xs
unfolding sort_by
fold_sorted step swap less b [] = refl
fold_sorted step swap less b (x ∷ xs) = fold_inserted step swap less b x (sort_by less xs) ∙ fold_sorted step swap less (step b x) xs

xor_turned : (bits one two : ℕ) → bit_xor (bit_xor bits one) two ≡ bit_xor (bit_xor bits two) one
xor_turned bits one two =
    let turned : bit_xor bits (bit_xor one two) ≡ bit_xor bits (bit_xor two one) = ap (bit_xor bits) (xor_comm one two) in
    xor_assoc bits one two ∙ (turned ∙ sym (xor_assoc bits two one))

xor_bytes_swap : (bs xs ys : List ℕ) → xor_bytes (xor_bytes bs xs) ys ≡ xor_bytes (xor_bytes bs ys) xs
xor_bytes_swap [] xs ys = refl
xor_bytes_swap (b ∷ bs) [] [] = refl
xor_bytes_swap (b ∷ bs) [] (y ∷ ys) = refl
xor_bytes_swap (b ∷ bs) (x ∷ xs) [] = refl
xor_bytes_swap (b ∷ bs) (x ∷ xs) (y ∷ ys) = ap₂ (λ (c : ℕ) (cs : List ℕ). c ∷ cs) (xor_turned b x y) (xor_bytes_swap bs xs ys)

-- the XOR of many does not depend on their order
pub xor_all-same : (start : List ℕ) (xs ys : List (List ℕ)) → HasSameSums xs ys → fold xor_bytes start xs ≡ fold xor_bytes start ys
xor_all-same start xs ys same =
    sym (fold_sorted xor_bytes xor_bytes_swap bytes_less start xs)
    ∙ (ap (fold xor_bytes start) (same_sorted bytes_less bytes_order bytes_tie xs ys same) ∙ fold_sorted xor_bytes xor_bytes_swap bytes_less start ys)

-- two ascending lists make one, where no element of the second is less than one of the first

all_joined : {A : Type 0} (P : A → Type 0) (xs ys : List A) → AllByRecursion P xs → AllByRecursion P ys → AllByRecursion P (xs ++ ys)
all_joined P [] ys all_xs all_ys = all_ys
all_joined P (x ∷ xs) ys all_xs all_ys = (all_xs.0, all_joined P xs ys all_xs.1 all_ys)

all_weaker : {A : Type 0} (P Q : A → Type 0) (xs : List A) → ((x : A) → P x → Q x) → AllByRecursion P xs → AllByRecursion Q xs
all_weaker P Q [] weaker all = tt
all_weaker P Q (x ∷ xs) weaker all = (weaker x all.0, all_weaker P Q xs weaker all.1)

pub ascending_joined : {A : Type 0} (less : A → A → Bool) (Low High : A → Type 0) → ((a b : A) → Low a → High b → less b a ≡ false) →
    (xs ys : List A) → IsAscending less xs → IsAscending less ys → AllByRecursion Low xs → AllByRecursion High ys → IsAscending less (xs ++ ys)
ascending_joined less Low High apart [] ys up_xs up_ys low high = up_ys
ascending_joined less Low High apart (x ∷ xs) ys up_xs up_ys low high = (
  all_joined (λ b. less b x ≡ false) xs ys up_xs.0 (all_weaker High (λ b. less b x ≡ false) ys (λ b is. apart x b low.0 is) high),
  ascending_joined less Low High apart xs ys up_xs.1 up_ys low.1 high,
)
