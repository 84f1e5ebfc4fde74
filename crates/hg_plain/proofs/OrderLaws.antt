-- The order is that of its rounds, one after the other
use Rattle.std.proofs.Common.{◌≡◌, inl, inr, ℕ, suc, ◌+◌, true, false, not, ◌&&◌, ltb, eqb, List, [], ◌++◌, length, Option, IfSome, refl, ap₂, ◌∙◌, subst, arith, add-one}
use Rattle.std.proofs.Math.Bool.{and-false}
use Rattle.std.proofs.lemmas.Bool.{cases_lt, ltb-true, ltb-false, lt-ltb, le-ltb, eq-eqb, ne_eqb}
use Rattle.hg_model.specs.declared.row.Row.{Row}
use Rattle.hg_model.specs.declared.row.Placed.{Placed}
use Rattle.hg_model.specs.Stakes.{Stakes}
use Rattle.hg_model.specs.Links.{Link}
use Rattle.hg_model.specs.Fame.{Marks}
use Rattle.hg_model.specs.Order.{ordered_in, ordered, round_received, can_receive}
use Rattle.hg_model.proofs.OrderLaws.{ordered_in-split, ordered_in-same, ordered_in-none}
use Rattle.hg_model.proofs.SearchLaws.{IsFoundBelow, least_below_found}
use Rattle.hg_plain.specs.Rounds.{ordered_before}

before_last : (z r : ℕ) → (ltb z (suc r) && ltb z r) ≡ ltb z r
before_last z r = elim (cases_lt z r) [
  | inl low ↦ rw (lt-ltb z r low, lt-ltb z (suc r) (omega arith)) refl
  | inr high ↦ rw (le-ltb z r high) (and-false (ltb z (suc r)))
]

just_last : (z r : ℕ) → (ltb z (suc r) && not (ltb z r)) ≡ eqb z r
just_last z r = elim (cases_lt z r) [
  | inl low ↦ rw (lt-ltb z r low, lt-ltb z (suc r) (omega arith), ne_eqb z r (λ e. absurd (omega arith))) refl
  | inr high ↦ elim (cases_lt z (suc r)) [
    | inl same ↦ rw (le-ltb z r high, lt-ltb z (suc r) same, eq-eqb z r (omega arith)) refl
    | inr past ↦ rw (le-ltb z r high, le-ltb z (suc r) past, ne_eqb z r (λ e. absurd (omega arith))) refl
  ]
]

module _ (n : Stakes) (G : List Row) (L : List Link) (marks : Marks) where
  pub before_none : ordered_before n G L marks 0 ≡ []
  unfolding ordered_before
  before_none =
      ordered_in-same n G L marks (λ k. ltb k 0) (λ k. false) (λ x k inside is. le-ltb k 0 (omega arith))
      ∙ ordered_in-none n G L marks

  pub before_more : (r : ℕ) → ordered_before n G L marks (r + 1) ≡ ordered_before n G L marks r ++ ordered_in n G L marks (λ k. eqb k r)
  unfolding ordered_before
  before_more r =
      rw (add-one r)
      (ordered_in-split n G L marks (λ k. ltb k (suc r)) (λ k. ltb k r)
      (λ j k low high. let lt = ltb-true j r low in let ge = ltb-false k r high in omega arith)
      ∙ ap₂ (λ (xs ys : List Placed). xs ++ ys)
      (ordered_in-same n G L marks (λ k. ltb k (suc r) && ltb k r) (λ k. ltb k r) (λ x k inside is. before_last k r))
      (ordered_in-same n G L marks (λ k. ltb k (suc r) && not (ltb k r)) (λ k. eqb k r) (λ x k inside is. just_last k r)))

  -- all rounds are before the one after as many as there are rows
  pub before_all : ordered_before n G L marks (suc (length L)) ≡ ordered n G L marks
  unfolding ordered_before round_received
  before_all = ordered_in-same n G L marks (λ k. ltb k (suc (length L))) (λ _. true) (λ x k inside is.
      let found = subst (λ (o : Option ℕ). IfSome o (IsFoundBelow (can_receive n L marks x) (suc (length L)))) is (least_below_found (λ r. r) (suc (length L)) (can_receive n L marks x)) in
      lt-ltb k (suc (length L)) found.0)

pub ruleset order_steps = (before_none, before_more)
