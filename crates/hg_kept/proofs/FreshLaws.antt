-- What the next round receives of the rows that no closed round has received
use Rattle.std.proofs.Common.{◌≡◌, inl, inr, ℕ, suc, ◌+◌, ◌<◌, Bool, true, false, ◌&&◌, not, leb, eqb, List, length, Option, Some, None, is_some, unwrap_or, sym, refl, ap, ◌∙◌, subst, arith}
use Rattle.std.specs.List.{list_all}
use Rattle.std.proofs.lemmas.Bool.{cases_lt, cases_eq, eq-eqb, ne_eqb, le-leb, lt-leb, false_from_ne_true}
use Rattle.hg_model.specs.Places.{some_below, list_below, IsEarlier}
use Rattle.hg_model.specs.Stakes.{Stakes}
use Rattle.hg_model.specs.Links.{Link, parents}
use Rattle.hg_model.specs.Ancestry.{is_ancestor}
use Rattle.hg_model.specs.Fame.{Marks, is_closed, is_unique_famous}
use Rattle.hg_model.specs.Order.{is_without, can_receive, round_received, is_received_in, famous_places}
use Rattle.hg_model.specs.Prefix.{Graph, links_of}
use Rattle.hg_model.proofs.ListLaws.{list_all-list_below, none-list_below}
use Rattle.hg_model.proofs.SearchLaws.{least_below_some}
use Rattle.hg_prefix.proofs.FamousLaws.{receives_is, receives_from, received_is, closed_bounds}
use Rattle.hg_kept.specs.Published.{is_pending}

-- what a round that follows m makes of a row, by the round that receives it
record IsNext (o : Option ℕ) (c : Bool) (m : ℕ) : Type 0 where
  waits : not (is_some o && leb (unwrap_or o 0) (m + 1)) ≡ (not (is_some o && leb (unwrap_or o 0) m) && not c)
  comes : (is_some o && eqb (unwrap_or o 0) (m + 1)) ≡ (not (is_some o && leb (unwrap_or o 0) m) && c)

next_by : (o : Option ℕ) (c : Bool) (m : ℕ) → (o ≡ None → c ≡ false) → ((a : ℕ) → o ≡ Some a → a ≡ m + 1 → c ≡ true) → ((a : ℕ) → o ≡ Some a → m + 1 < a → c ≡ false) → IsNext o c m
next_by None c m none here later = (let no = none refl in record { waits = rw no refl; comes = rw no refl })
next_by (Some a) c m none here later = elim (cases_lt a (m + 1)) [
  | inl low ↦ (
      let le : leb a m ≡ true = le-leb a m (omega arith) in
      let le' : leb a (m + 1) ≡ true = le-leb a (m + 1) (omega arith) in
      let ne : eqb a (m + 1) ≡ false = ne_eqb a (m + 1) (λ same. absurd (omega arith)) in
      record { waits = rw (le, le') refl; comes = rw (le, ne) refl })
  | inr high ↦ (
      let gt : leb a m ≡ false = lt-leb a m (omega arith) in
      elim (cases_eq a (m + 1)) [
        | inl same ↦ (
            let le' : leb a (m + 1) ≡ true = le-leb a (m + 1) (omega arith) in
            let eq : eqb a (m + 1) ≡ true = eq-eqb a (m + 1) same in
            let yes_c = here a refl same in
            record { waits = rw (gt, le', yes_c) refl; comes = rw (gt, eq, yes_c) refl })
        | inr other ↦ (
            let gt' : leb a (m + 1) ≡ false = lt-leb a (m + 1) (omega arith) in
            let ne : eqb a (m + 1) ≡ false = ne_eqb a (m + 1) other in
            let no_c = later a refl (omega arith) in
            record { waits = rw (gt, gt', no_c) refl; comes = rw (gt, ne, no_c) refl })
      ])
]

module _ (g : Graph) (marks : Marks) (e : IsEarlier (parents (links_of g))) where
  -- what some round can receive is received
  some_received : (x r : ℕ) → can_receive g.members (links_of g) marks x r ≡ true → (a : ℕ) × (round_received g.members (links_of g) marks x ≡ Some a)
  unfolding round_received
  some_received x r can =
      let n = g.members in
      let L = links_of g in
      let low = (closed_bounds n L marks e r (receives_is n L marks x r can).closed).1 in
      least_below_some (λ k. k) (suc (length L)) (can_receive n L marks x) r (omega arith) can

  next_of : (m x : ℕ) → IsNext (round_received g.members (links_of g) marks x) (can_receive g.members (links_of g) marks x (m + 1)) m
  next_of m x =
      let n = g.members in
      let L = links_of g in
      next_by (round_received n L marks x) (can_receive n L marks x (m + 1)) m
      (λ none. false_from_ne_true (can_receive n L marks x (m + 1)) (λ can. (let some = some_received x (m + 1) can in let clash : None ≡ Some some.0 = sym none ∙ some.1 in cc)))
      (λ a is same. subst (λ (k : ℕ). can_receive n L marks x k ≡ true) same (receives_from n L marks x a (received_is n L marks x a is).receives))
      (λ a is high. false_from_ne_true (can_receive n L marks x (m + 1)) ((received_is n L marks x a is).least (m + 1) high))

  -- a row waits on where the next round can not receive it
  pub pending_next : (m x : ℕ) → is_pending g marks (m + 1) x ≡ (is_pending g marks m x && not (can_receive g.members (links_of g) marks x (m + 1)))
  pending_next m x = (next_of m x).waits

  -- and is received by it where it can
  pub fresh_next : (m x : ℕ) → is_received_in g.members (links_of g) marks (λ k. eqb k (m + 1)) x ≡ (is_pending g marks m x && can_receive g.members (links_of g) marks x (m + 1))
  fresh_next m x = (next_of m x).comes

module _ (n : Stakes) (L : List Link) (marks : Marks) (r : ℕ) where
  -- a round without a unique famous witness receives nothing
  pub none_receive : length (famous_places n L marks r) ≡ 0 → (x : ℕ) → can_receive n L marks x r ≡ false
  unfolding can_receive famous_places
  none_receive none x =
      let some = some_below (length L) (is_unique_famous n L marks r) in
      let no : some ≡ false = sym (none-list_below (λ w. w) (length L) (is_unique_famous n L marks r)) ∙ ap (λ (k : ℕ). not (eqb k 0)) none in
      rw no (nothing (is_closed n L marks r) (not (some_below (length L) (is_without n L marks r x))))
    where
      nothing : (a b : Bool) → ((a && false) && b) ≡ false
      nothing true b = refl
      nothing false b = refl

  -- a closed round with one can receive what all of them have as ancestor
  pub all_receive : is_closed n L marks r ≡ true → 0 < length (famous_places n L marks r) → (x : ℕ) → can_receive n L marks x r ≡ list_all (λ w. is_ancestor L w x) (famous_places n L marks r)
  unfolding can_receive famous_places
  all_receive closed some x =
      let famous = list_below (λ w. w) (length L) (is_unique_famous n L marks r) in
      let there : some_below (length L) (is_unique_famous n L marks r) ≡ true =
      sym (none-list_below (λ w. w) (length L) (is_unique_famous n L marks r)) ∙ ap not (ne_eqb (length famous) 0 (λ none. absurd (omega arith))) in
      rw (closed, there) (sym (list_all-list_below (λ w. is_ancestor L w x) (length L) (is_unique_famous n L marks r)))
