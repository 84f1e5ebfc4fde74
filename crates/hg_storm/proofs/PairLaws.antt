-- Pairs of two lists, as one of the lists grows or changes at one place
use Rattle.std.proofs.Common.{◌≡◌, ◌≢◌, ℕ, ◌<◌, List, [], ◌∷◌, ◌++◌, length, length-set, get_or, set, sym, ap, ◌∙◌, subst, arith}
use Rattle.std.proofs.lemmas.List.{get_or_append_left, get_or_default, get_or_push, get_or-set_same, get_or-set_other, length_push}
use mathlib.Core.Logic.{dite}
use native.Mathlib.Decide.{ℕ_discrete}
use Rattle.hg_storm.specs.Threads.{Pairs}

module _ {A B : Type 0} (R : ℕ → A → B → Type 0) where
  -- the pair at one place, where both were read
  pub pair_read : (xs : List A) (ys : List B) (k : ℕ) (x : A) (y : B) → Pairs R xs ys → k < length xs → x ≡ get_or xs k x → y ≡ get_or ys k y → R k x y
  pair_read xs ys k x y pairs inside at_x at_y = subst (λ (z : A × B). R k z.0 z.1) (λ i. (sym at_x i, sym at_y i)) (pairs.each k x y inside)

  pub pairs_push : (xs : List A) (ys : List B) (x : A) (y : B) → Pairs R xs ys → R (length xs) x y → Pairs R (xs ++ x ∷ []) (ys ++ y ∷ [])
  pairs_push xs ys x y pairs here = record {
    count = omega (arith, length_push xs x, length_push ys y, pairs.count);
    each = λ k a b inside. dite (ℕ_discrete k (length xs))
        (λ e.
        let at : k ≡ length xs = e in
        let last_x : get_or (xs ++ x ∷ []) k a ≡ x = get_or_push xs x a k (sym at) in
        let last_y : get_or (ys ++ y ∷ []) k b ≡ y = get_or_push ys y b k (pairs.count ∙ sym at) in
        subst (λ (z : A × B). R k z.0 z.1) (λ i. (sym last_x i, sym last_y i)) (subst (λ (n : ℕ). R n x y) (sym at) here))
        (λ ne.
        let early : k < length xs = omega (arith, ne, inside, length_push xs x) in
        let old_x : get_or (xs ++ x ∷ []) k a ≡ get_or xs k a = get_or_append_left xs (x ∷ []) a k early in
        let old_y : get_or (ys ++ y ∷ []) k b ≡ get_or ys k b = get_or_append_left ys (y ∷ []) b k (omega (arith, early, pairs.count)) in
        subst (λ (z : A × B). R k z.0 z.1) (λ i. (sym old_x i, sym old_y i)) (pairs.each k a b early));
  }

  -- one element of the second list is new, and each other pair is so too
  pub pairs_set : (S : ℕ → A → B → Type 0) (xs : List A) (ys : List B) (k : ℕ) (x : A) (y : B) → Pairs R xs ys → k < length xs → x ≡ get_or xs k x → S k x y →
      ((j : ℕ) (a : A) (b : B) → j < length xs → j ≢ k → R j a b → S j a b) → Pairs S xs (set ys k y)
  pairs_set S xs ys k x y pairs inside at_x here others = record {
    count = length-set ys k y ∙ pairs.count;
    each = λ j a b low. dite (ℕ_discrete j k)
        (λ e.
        let at : j ≡ k = e in
        let is_x : get_or xs j a ≡ x = ap (λ (n : ℕ). get_or xs n a) at ∙ (get_or_default xs k a x inside ∙ sym at_x) in
        let is_y : get_or (set ys k y) j b ≡ y = ap (λ (n : ℕ). get_or (set ys k y) n b) at ∙ get_or-set_same ys k y b (omega (arith, inside, pairs.count)) in
        subst (λ (z : A × B). S j z.0 z.1) (λ i. (sym is_x i, sym is_y i)) (subst (λ (n : ℕ). S n x y) (sym at) here))
        (λ ne. subst (S j (get_or xs j a)) (sym (get_or-set_other ys k j y b ne)) (others j (get_or xs j a) (get_or ys j b) low ne (pairs.each j a b low)));
  }

  pub pairs_map : (S : ℕ → A → B → Type 0) (xs : List A) (ys : List B) → ((j : ℕ) (a : A) (b : B) → j < length xs → R j a b → S j a b) → Pairs R xs ys → Pairs S xs ys
  pairs_map S xs ys f pairs = record { count = pairs.count; each = λ j a b low. f j (get_or xs j a) (get_or ys j b) low (pairs.each j a b low) }
