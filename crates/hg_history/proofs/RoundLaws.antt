-- The kept order round by round
use Rattle.std.proofs.Common.{◌≡◌, inl, inr, ℕ, zero, suc, ◌<◌, ◌≤◌, true, false, not, ◌&&◌, leb, eqb, List, ◌++◌, Some, sym, refl, ap₂, ◌∙◌, arith}
use Rattle.std.proofs.Math.Bool.{and-false}
use Rattle.std.proofs.lemmas.Bool.{cases_Bool, leb-true, leb-false, le-leb, lt-leb, eq-eqb, ne_eqb}
use Rattle.hg_model.specs.declared.row.Placed.{Placed}
use Rattle.hg_model.specs.Places.{IsEarlier}
use Rattle.hg_model.specs.Stakes.{Stakes}
use Rattle.hg_model.specs.Links.{parents}
use Rattle.hg_model.specs.Order.{ordered_in, round_received, last_closed}
use Rattle.hg_life.specs.History.{State}
use Rattle.hg_life.specs.Kept.{kept, kept_up_to}
use Rattle.hg_model.proofs.OrderLaws.{ordered_in-split, ordered_in-same, ordered_in-none}
use Rattle.hg_prefix.proofs.ClosedLaws.{closed_last}
use Rattle.hg_prefix.proofs.FamousLaws.{received_is}

up_to_less : (r m : ℕ) → (leb r (suc m) && leb r m) ≡ leb r m
up_to_less r m = elim (cases_Bool (leb r m)) [
  | inl low ↦ (let le = leb-true r m low in let more : leb r (suc m) ≡ true = le-leb r (suc m) (omega arith) in rw (low, more) refl)
  | inr high ↦ (rw high (and-false (leb r (suc m))))
]

just_last : (r m : ℕ) → (leb r (suc m) && not (leb r m)) ≡ eqb r (suc m)
just_last r m = elim (cases_Bool (leb r m)) [
  | inl low ↦ (let le = leb-true r m low in let differ : eqb r (suc m) ≡ false = ne_eqb r (suc m) (λ e. absurd (omega arith)) in rw (low, differ) (and-false (leb r (suc m))))
  | inr high ↦ elim (cases_Bool (leb r (suc m))) [
    | inl last ↦ (let lt = leb-false r m high in let le = leb-true r (suc m) last in let same : eqb r (suc m) ≡ true = eq-eqb r (suc m) (omega arith) in rw (high, last, same) refl)
    | inr past ↦ (let lt = leb-false r (suc m) past in let differ : eqb r (suc m) ≡ false = ne_eqb r (suc m) (λ e. absurd (omega arith)) in rw (high, past, differ) refl)
  ]
]

module _ (n : Stakes) (s : State) (e : IsEarlier (parents s.links)) where
  -- a round that received a row is closed
  received_bounds : (x r : ℕ) → round_received n s.links s.marks x ≡ Some r → (0 < r) × (r ≤ last_closed n s.links s.marks)
  received_bounds x r is = closed_last n s.links e s.marks r (received_is n s.links s.marks x r is).receives.closed

  pub up_to_is : (m : ℕ) → ordered_in n s.rows s.links s.marks (λ r. leb r m) ≡ kept_up_to n s m
  unfolding kept_up_to
  up_to_is zero =
      ordered_in-same n s.rows s.links s.marks (λ r. leb r 0) (λ r. false) (λ x r inside is. lt-leb r 0 (received_bounds x r is).0)
      ∙ ordered_in-none n s.rows s.links s.marks
  up_to_is (suc m) =
      ordered_in-split n s.rows s.links s.marks (λ r. leb r (suc m)) (λ r. leb r m)
      (λ j k low high. let le = leb-true j m low in let lt = leb-false k m high in omega arith)
      ∙ ap₂ (λ (xs ys : List Placed). xs ++ ys)
      (ordered_in-same n s.rows s.links s.marks (λ r. leb r (suc m) && leb r m) (λ r. leb r m) (λ x r inside is. up_to_less r m) ∙ up_to_is m)
      (ordered_in-same n s.rows s.links s.marks (λ r. leb r (suc m) && not (leb r m)) (λ r. eqb r (suc m)) (λ x r inside is. just_last r m))

  pub order_by_rounds : kept n s ≡ kept_up_to n s (last_closed n s.links s.marks)
  order_by_rounds =
      ordered_in-same n s.rows s.links s.marks (λ r. true) (λ r. leb r (last_closed n s.links s.marks)) (λ x r inside is. sym (le-leb r (last_closed n s.links s.marks) (received_bounds x r is).1))
      ∙ up_to_is (last_closed n s.links s.marks)
