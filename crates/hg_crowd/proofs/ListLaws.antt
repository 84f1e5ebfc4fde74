-- Lists of which one element after the other changes, and pairs of lists
use Rattle.std.proofs.Common.{◌≡◌, ◌≢◌, ℕ, zero, suc, ◌+◌, ◌<◌, ◌≤◌, List, [], ◌∷◌, ◌++◌, length, take, map, get_or, set, refl, sym, ap, ◌∙◌, subst, arith}
use Rattle.std.proofs.lemmas.List.{get_or_append_left, get_or-set_same, get_or-set_other}
use mathlib.Core.Logic.{dite}
use native.Mathlib.Decide.{ℕ_discrete}
use Rattle.hg_crowd.specs.Crowd.{Each}

module _ {A : Type 0} where
  -- what is so of the new element and of each other is so of all
  pub set_at : (P : ℕ → A → Type 0) (xs : List A) (i : ℕ) (x : A) → P i x → ((k : ℕ) (d : A) → k < length xs → k ≢ i → P k (get_or xs k d)) →
      (k : ℕ) (d : A) → k < length xs → P k (get_or (set xs i x) k d)
  set_at P xs i x here others k d inside = dite (ℕ_discrete k i)
      (λ e.
      let same : k ≡ i = e in
      let new : get_or (set xs i x) k d ≡ x = ap (λ (j : ℕ). get_or (set xs i x) j d) same ∙ get_or-set_same xs i x d (omega (arith, same, inside)) in
      subst (P k) (sym new) (subst (λ (j : ℕ). P j x) (sym same) here))
      (λ ne. subst (P k) (sym (get_or-set_other xs i k x d ne)) (others k d inside ne))

  pub get_last : (xs : List A) (x d : A) (k : ℕ) → k ≡ length xs → get_or (xs ++ x ∷ []) k d ≡ x
  get_last [] x d zero at = refl
  get_last [] x d (suc k) at = absurd (omega (arith, at))
  get_last (y ∷ xs) x d zero at = absurd (omega (arith, at))
  get_last (y ∷ xs) x d (suc k) at = get_last xs x d k (omega (arith, at))

  -- what is so of each element and of one more is so of all
  pub push_at : (P : ℕ → A → Type 0) (xs : List A) (x : A) → P (length xs) x → ((k : ℕ) (d : A) → k < length xs → P k (get_or xs k d)) →
      (k : ℕ) (d : A) → k < length xs + 1 → P k (get_or (xs ++ x ∷ []) k d)
  push_at P xs x here others k d inside = dite (ℕ_discrete k (length xs))
      (λ e.
      let same : k ≡ length xs = e in
      subst (P k) (sym (get_last xs x d k same)) (subst (λ (j : ℕ). P j x) (sym same) here))
      (λ ne. let early : k < length xs = omega (arith, ne) in subst (P k) (sym (get_or_append_left xs (x ∷ []) d k early)) (others k d early))

-- the function of the first so many elements, and the others as they are
abbrev pub map_front : {A : Type 0} → (A → A) → ℕ → List A → List A
map_front f zero xs = xs
map_front f (suc i) [] = []
map_front f (suc i) (x ∷ xs) = f x ∷ map_front f i xs

module _ {A B : Type 0} (f : A → A) (g : A → B) where
  pub front_get : (i : ℕ) (xs : List A) (k : ℕ) (d : A) → i ≤ k → get_or (map_front f i xs) k d ≡ get_or xs k d
  front_get zero xs k d past = refl
  front_get (suc i) [] k d past = refl
  front_get (suc i) (x ∷ xs) zero d past = absurd (omega arith)
  front_get (suc i) (x ∷ xs) (suc k) d past = front_get i xs k d (omega arith)

  pub front_count : (i : ℕ) (xs : List A) → length (map_front f i xs) ≡ length xs
  front_count zero xs = refl
  front_count (suc i) [] = refl
  front_count (suc i) (x ∷ xs) = ap suc (front_count i xs)

  pub front_set : (i : ℕ) (xs : List A) (d : A) → i < length xs → set (map_front f i xs) i (f (get_or xs i d)) ≡ map_front f (suc i) xs
  front_set i [] d inside = absurd (omega arith)
  front_set zero (x ∷ xs) d inside = refl
  front_set (suc i) (x ∷ xs) d inside = ap (λ ys. f x ∷ ys) (front_set i xs d (omega arith))

  pub front_all : (i : ℕ) (xs : List A) → length xs ≤ i → map_front f i xs ≡ map f xs
  front_all zero [] past = refl
  front_all zero (x ∷ xs) past = absurd (omega arith)
  front_all (suc i) [] past = refl
  front_all (suc i) (x ∷ xs) past = ap (λ ys. f x ∷ ys) (front_all i xs (omega arith))

  pub map_push : (i : ℕ) (xs : List A) (d : A) → i < length xs → map g (take (suc i) xs) ≡ map g (take i xs) ++ g (get_or xs i d) ∷ []
  map_push i [] d inside = absurd (omega arith)
  map_push zero (x ∷ xs) d inside = refl
  map_push (suc i) (x ∷ xs) d inside = ap (λ ys. g x ∷ ys) (map_push i xs d (omega arith))

  pub map_taken : (i : ℕ) (xs : List A) → length xs ≤ i → map g (take i xs) ≡ map g xs
  map_taken zero [] past = refl
  map_taken zero (x ∷ xs) past = absurd (omega arith)
  map_taken (suc i) [] past = refl
  map_taken (suc i) (x ∷ xs) past = ap (λ ys. g x ∷ ys) (map_taken i xs (omega arith))

module _ {A B : Type 0} (R : A → B → Type 0) where
  -- a pair at one place
  pub pair_at : (xs : List A) (ys : List B) (i : ℕ) (x : A) (y : B) → Each R xs ys → i < length xs → x ≡ get_or xs i x → y ≡ get_or ys i y → R x y
  pair_at xs ys i x y each inside first second =
      subst (R x) (sym second) (subst (λ (a : A). R a (get_or ys i y)) (sym first) (each.each i x y inside))

module _ {A : Type 0} where
  -- an element of a list that has some
  pub some_of : (xs : List A) (i : ℕ) → i < length xs → A
  some_of [] i inside = absurd (omega arith)
  some_of (x ∷ xs) i inside = x
