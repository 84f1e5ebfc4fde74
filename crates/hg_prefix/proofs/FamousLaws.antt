-- Closed rounds, famous witnesses and what receives a row, in parts
use Rattle.std.proofs.Common.{◌≡◌, ℕ, suc, ◌<◌, ◌≤◌, Bool, true, ◌&&◌, not, leb, eqb, List, length, Option, Some, None, is_none, sym, ap, ◌∙◌, inl, inr, arith}
use Rattle.std.proofs.lemmas.Bool.{cases_eq, and_parts, and_from, eq-eqb, eqb-true, ne_eqb, leb-true, true≢false, false_from_ne_true, both_ways, not-true, not-false, not_from_false}
use Rattle.hg_model.specs.Places.{some_below, IsEarlier}
use Rattle.hg_model.specs.Stakes.{Stakes}
use Rattle.hg_model.specs.Links.{Link, parents, creator}
use Rattle.hg_model.specs.Ancestry.{is_ancestor}
use Rattle.hg_model.specs.Rounds.{round_of, is_witness}
use Rattle.hg_model.specs.Fame.{Marks, mark_at, is_witness_of_round, is_unmarked, is_closed, is_yes, is_famous_in, is_rival, is_unique_famous}
use Rattle.hg_model.specs.Order.{is_without, can_receive, round_received}
use Rattle.hg_model.proofs.PlacesLaws.{some_below_from, some_below_found, some_below_none}
use Rattle.hg_agree.proofs.LateLaws.{closed_witness}
use Rattle.hg_model.proofs.RoundLaws.{round_of-pos, round_of-le}
use Rattle.hg_prefix.proofs.LeastLaws.{least_below_is, least_number_is, least_number_from}

famous_mark : (mark : Option Bool) → is_yes mark ≡ true → mark ≡ Some true
famous_mark None says = absurd (true≢false (sym says))
famous_mark (Some v) says = ap (λ (b : Bool). Some b) says

module _ (n : Stakes) (L : List Link) (marks : Marks) where
  pub record IsWitnessIn (r w : ℕ) : Type 0 where
    pub inside : w < length L
    pub witness : is_witness n L w ≡ true
    pub in_round : round_of n L w ≡ r

  pub witness_of_closed : (r : ℕ) → is_closed n L marks r ≡ true → (w : ℕ) × IsWitnessIn r w
  witness_of_closed r closed =
      let w = closed_witness n L marks r closed in
      let parts = and_parts (is_witness n L w.0) (eqb (round_of n L w.0) r) w.2 in
      (w.0, record { inside = w.1; witness = parts.0; in_round = eqb-true (round_of n L w.0) r parts.1 })

  -- a round with a witness is closed where all witnesses up to it have a mark
  pub closed_from : (r w : ℕ) → IsWitnessIn r w → ((y : ℕ) → y < length L → is_witness n L y ≡ true → round_of n L y ≤ r → (v : Bool) × (mark_at marks y ≡ Some v)) → is_closed n L marks r ≡ true
  unfolding is_closed
  closed_from r w witness marked =
      let some = some_below (length L) (is_witness_of_round n L r) in
      let unmarked = some_below (length L) (is_unmarked n L marks r) in
      and_from some (not unmarked)
      (some_below_from (length L) (is_witness_of_round n L r) w witness.inside
      (and_from (is_witness n L w) (eqb (round_of n L w) r) witness.witness (eq-eqb (round_of n L w) r witness.in_round)))
      (not_from_false unmarked (some_below_none (length L) (is_unmarked n L marks r) (λ y inside e.
      let parts = and_parts (is_witness n L y && leb (round_of n L y) r) (is_none (mark_at marks y)) e in
      let inner = and_parts (is_witness n L y) (leb (round_of n L y) r) parts.0 in
      let mark = marked y inside inner.0 (leb-true (round_of n L y) r inner.1) in
      true≢false (sym parts.1 ∙ ap is_none mark.1))))

  -- a closed round is a round of the graph
  pub closed_bounds : IsEarlier (parents L) → (r : ℕ) → is_closed n L marks r ≡ true → (0 < r) × (r ≤ length L)
  closed_bounds e r closed =
      let w = witness_of_closed r closed in
      let pos = round_of-pos n L e w.0 in
      let le = round_of-le n L e w.0 in
      let inside = w.1.inside in
      let is = w.1.in_round in
      (omega arith, omega arith)

  pub record IsFamous (r y : ℕ) : Type 0 where
    pub witness : is_witness n L y ≡ true
    pub in_round : round_of n L y ≡ r
    pub marked : mark_at marks y ≡ Some true

  pub famous_is : (r y : ℕ) → is_famous_in n L marks r y ≡ true → IsFamous r y
  famous_is r y h =
      let parts = and_parts (is_witness_of_round n L r y) (is_yes (mark_at marks y)) h in
      let inner = and_parts (is_witness n L y) (eqb (round_of n L y) r) parts.0 in
      record { witness = inner.0; in_round = eqb-true (round_of n L y) r inner.1; marked = famous_mark (mark_at marks y) parts.1 }

  pub famous_from : (r y : ℕ) → IsFamous r y → is_famous_in n L marks r y ≡ true
  famous_from r y f =
      and_from (is_witness_of_round n L r y) (is_yes (mark_at marks y))
      (and_from (is_witness n L y) (eqb (round_of n L y) r) f.witness (eq-eqb (round_of n L y) r f.in_round)) (ap is_yes f.marked)

  pub record IsUniqueFamous (r y : ℕ) : Type 0 where
    pub famous : IsFamous r y
    pub only : (z : ℕ) → z < length L → IsFamous r z → creator L z ≡ creator L y → z ≡ y

  pub unique_is : (r y : ℕ) → is_unique_famous n L marks r y ≡ true → IsUniqueFamous r y
  unfolding is_unique_famous
  unique_is r y h =
      let rivals = some_below (length L) (is_rival n L marks r y) in
      let parts = and_parts (is_famous_in n L marks r y) (not rivals) h in
      record {
        famous = famous_is r y parts.0;
        only = λ z inside f same. elim (cases_eq z y) [
          | inl is ↦ is
          | inr other ↦ absurd (both_ways rivals (not-true rivals parts.1)
              (some_below_from (length L) (is_rival n L marks r y) z inside
              (and_from (is_famous_in n L marks r z && eqb (creator L z) (creator L y)) (not (eqb z y))
              (and_from (is_famous_in n L marks r z) (eqb (creator L z) (creator L y)) (famous_from r z f) (eq-eqb (creator L z) (creator L y) same))
              (not_from_false (eqb z y) (ne_eqb z y other)))))
        ];
      }

  pub unique_from : (r y : ℕ) → IsUniqueFamous r y → is_unique_famous n L marks r y ≡ true
  unfolding is_unique_famous
  unique_from r y u =
      let rivals = some_below (length L) (is_rival n L marks r y) in
      and_from (is_famous_in n L marks r y) (not rivals) (famous_from r y u.famous)
      (not_from_false rivals (some_below_none (length L) (is_rival n L marks r y) (λ z inside e.
      let parts = and_parts (is_famous_in n L marks r z && eqb (creator L z) (creator L y)) (not (eqb z y)) e in
      let inner = and_parts (is_famous_in n L marks r z) (eqb (creator L z) (creator L y)) parts.0 in
      both_ways (eqb z y) (not-true (eqb z y) parts.1)
      (eq-eqb z y (u.only z inside (famous_is r z inner.0) (eqb-true (creator L z) (creator L y) inner.1))))))

  -- round r receives x, if no lesser one does
  pub record Receives (x r : ℕ) : Type 0 where
    pub closed : is_closed n L marks r ≡ true
    pub some : (w : ℕ) × (w < length L) × (is_unique_famous n L marks r w ≡ true)
    pub below_all : (w : ℕ) → w < length L → is_unique_famous n L marks r w ≡ true → is_ancestor L w x ≡ true

  pub receives_is : (x r : ℕ) → can_receive n L marks x r ≡ true → Receives x r
  unfolding can_receive
  receives_is x r h =
      let some = some_below (length L) (is_unique_famous n L marks r) in
      let without = some_below (length L) (is_without n L marks r x) in
      let parts = and_parts (is_closed n L marks r && some) (not without) h in
      let inner = and_parts (is_closed n L marks r) some parts.0 in
      record {
        closed = inner.0;
        some = some_below_found (length L) (is_unique_famous n L marks r) inner.1;
        below_all = λ w inside unique. not-false (is_ancestor L w x) (false_from_ne_true (not (is_ancestor L w x)) (λ e.
            both_ways without (not-true without parts.1)
            (some_below_from (length L) (is_without n L marks r x) w inside (and_from (is_unique_famous n L marks r w) (not (is_ancestor L w x)) unique e))));
      }

  pub receives_from : (x r : ℕ) → Receives x r → can_receive n L marks x r ≡ true
  unfolding can_receive
  receives_from x r h =
      let some = some_below (length L) (is_unique_famous n L marks r) in
      let without = some_below (length L) (is_without n L marks r x) in
      and_from (is_closed n L marks r && some) (not without)
      (and_from (is_closed n L marks r) some h.closed (some_below_from (length L) (is_unique_famous n L marks r) h.some.0 h.some.1 h.some.2))
      (not_from_false without (some_below_none (length L) (is_without n L marks r x) (λ w inside e.
      let parts = and_parts (is_unique_famous n L marks r w) (not (is_ancestor L w x)) e in
      both_ways (is_ancestor L w x) (not-true (is_ancestor L w x) parts.1) (h.below_all w inside parts.0))))

  -- the round that receives x
  pub record IsReceivedIn (x r : ℕ) : Type 0 where
    pub receives : Receives x r
    pub least : (s : ℕ) → s < r → can_receive n L marks x s ≡ true → ⊥

  pub received_is : (x r : ℕ) → round_received n L marks x ≡ Some r → IsReceivedIn x r
  unfolding round_received
  received_is x r is = record {
    receives = receives_is x r (least_below_is (λ k. k) (suc (length L)) (can_receive n L marks x) r is).1;
    least = least_number_is (suc (length L)) (can_receive n L marks x) r is;
  }

  pub received_from : IsEarlier (parents L) → (x r : ℕ) → IsReceivedIn x r → round_received n L marks x ≡ Some r
  unfolding round_received
  received_from e x r is =
      let le = (closed_bounds e r is.receives.closed).1 in
      least_number_from (suc (length L)) (can_receive n L marks x) r (omega arith) (receives_from x r is.receives)
      (λ s low. false_from_ne_true (can_receive n L marks x s) (is.least s low))
