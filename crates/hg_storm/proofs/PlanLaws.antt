-- The members that have nodes, one after the other
use Rattle.std.proofs.Common.{◌≡◌, ◌+◌, ◌++◌, ℕ, suc, List, [], ◌∷◌, Bool, cond, true, false, refl, sym, ap, ◌∙◌, arith}
use Rattle.std.proofs.lemmas.List.{append-nil}
use Rattle.hg_model.specs.Places.{list_below}
use Rattle.hg_life.specs.Members.{MemberList, has_node}

module _ (members : MemberList) where
  abbrev first_ones : ℕ → List ℕ
  first_ones n = list_below (λ m. m) n (has_node members)

  pub circle_none : [] ≡ first_ones 0
  unfolding list_below
  circle_none = refl

  next_ones : (n : ℕ) → first_ones (n + 1) ≡ first_ones n ++ cond (has_node members n) (n ∷ []) []
  unfolding list_below
  next_ones n = ap first_ones (one n)
    where
      one : (k : ℕ) → k + 1 ≡ suc k
      one k = omega arith

  pub circle_more : (circle more : List ℕ) (n : ℕ) → circle ≡ first_ones n → has_node members n ≡ true → more ≡ circle ++ n ∷ [] → more ≡ first_ones (n + 1)
  circle_more circle more n is has more_is =
      more_is ∙ (ap (λ (l : List ℕ). l ++ n ∷ []) is ∙ sym (next_ones n ∙ ap (λ (b : Bool). first_ones n ++ cond b (n ∷ []) []) has))

  pub circle_same : (circle more : List ℕ) (n : ℕ) → circle ≡ first_ones n → has_node members n ≡ false → more ≡ circle → more ≡ first_ones (n + 1)
  circle_same circle more n is has more_is =
      more_is ∙ (is ∙ sym (next_ones n ∙ (ap (λ (b : Bool). first_ones n ++ cond b (n ∷ []) []) has ∙ append-nil (first_ones n))))
