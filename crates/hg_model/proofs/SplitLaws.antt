-- A sorted list falls apart at a test that the lesser elements pass
use Rattle.std.proofs.Common.{◌≡◌, inl, inr, Bool, true, false, not, List, [], ◌∷◌, ◌++◌, refl, ap, ◌∙◌}
use Rattle.std.specs.List.{AllByRecursion, filter}
use Rattle.std.proofs.lemmas.Bool.{cases_Bool}
use Rattle.hg_model.specs.Order.{insert_by, sort_by}
use Rattle.hg_model.proofs.SortLaws.{all_sorted}

module _ {A : Type 0} (less : A → A → Bool) (low : A → Bool) (order : (a b : A) → low a ≡ true → low b ≡ false → (less a b ≡ true) × (less b a ≡ false)) where
  insert_low : (x : A) (xs ys : List A) → low x ≡ true → AllByRecursion (λ y. low y ≡ false) ys → insert_by less x (xs ++ ys) ≡ insert_by less x xs ++ ys
  insert_low x [] [] is high = refl
  insert_low x [] (y ∷ ys) is high = rw (order x y is high.0).1 refl
  insert_low x (a ∷ xs) ys is high = elim (cases_Bool (less a x)) [
    | inl before ↦ rw (before, insert_low x xs ys is high) refl
    | inr after ↦ rw after refl
  ]

  insert_high : (x : A) (xs ys : List A) → low x ≡ false → AllByRecursion (λ y. low y ≡ true) xs → insert_by less x (xs ++ ys) ≡ xs ++ insert_by less x ys
  insert_high x [] ys is all = refl
  insert_high x (a ∷ xs) ys is all = rw ((order a x all.0 is).0, insert_high x xs ys is all.1) refl

  all_kept : (test : A → Bool) (xs : List A) → AllByRecursion (λ x. test x ≡ true) (filter test xs)
  all_kept test [] = tt
  all_kept test (x ∷ xs) = elim (cases_Bool (test x)) [
    | inl kept ↦ rw kept (kept, all_kept test xs)
    | inr left ↦ rw left (all_kept test xs)
  ]

  all_high : (xs : List A) → AllByRecursion (λ x. low x ≡ false) (filter (λ x. not (low x)) xs)
  all_high [] = tt
  all_high (x ∷ xs) = elim (cases_Bool (low x)) [
    | inl is ↦ rw is (all_high xs)
    | inr is ↦ rw is (is, all_high xs)
  ]

  pub sort_split : (xs : List A) → sort_by less xs ≡ sort_by less (filter low xs) ++ sort_by less (filter (λ x. not (low x)) xs)
  unfolding sort_by
  sort_split [] = refl
  sort_split (x ∷ xs) =
      let lows = sort_by less (filter low xs) in
      let highs = sort_by less (filter (λ y. not (low y)) xs) in
      elim (cases_Bool (low x)) [
        | inl is ↦ ap (insert_by less x) (sort_split xs)
            ∙ (insert_low x lows highs is (all_sorted (λ y. low y ≡ false) less (filter (λ y. not (low y)) xs) (all_high xs)) ∙ rw is refl)
        | inr is ↦ ap (insert_by less x) (sort_split xs)
            ∙ (insert_high x lows highs is (all_sorted (λ y. low y ≡ true) less (filter low xs) (all_kept low xs)) ∙ rw is refl)
      ]
