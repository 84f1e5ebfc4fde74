-- What a round receives: the rows that all of its unique famous witnesses have as ancestor
use Rattle.std.proofs.Common.{◌≡◌, ℕ, zero, suc, ◌<◌, true, false, not, ◌&&◌, eqb, List, [], ◌∷◌, length, Option, Some, None, IfSome, is_some, unwrap_or, sym, ap, ◌∙◌, subst, arith}
use Rattle.std.specs.List.{AllByRecursion}
use Rattle.std.proofs.lemmas.Bool.{and_parts, and_left, and_right, eqb-true, eq-eqb, not-true, true≢false}
use Rattle.hg_model.specs.Places.{some_below, list_below}
use Rattle.hg_model.specs.Stakes.{Stakes}
use Rattle.hg_model.specs.Links.{Link}
use Rattle.hg_model.specs.Ancestry.{is_ancestor}
use Rattle.hg_model.specs.Fame.{Marks, is_closed, is_unique_famous}
use Rattle.hg_model.specs.Order.{famous_places, is_without, can_receive, round_received, is_received_in}
use Rattle.hg_model.specs.Prefix.{Graph, links_of}
use Rattle.hg_model.specs.GraphWords.{famous_of}
use Rattle.hg_model.proofs.ListLaws.{none-list_below, list_all-list_below, all_list_below}
use Rattle.hg_model.proofs.SearchLaws.{IsFoundBelow, least_below_found}
use Rattle.hg_order.specs.Famous.{all_have, IsBelowAll}
use Rattle.hg_order.specs.Round.{received_places}

pos_from : (k : ℕ) → eqb k 0 ≡ false → 0 < k
pos_from zero e = absurd (true≢false e)
pos_from (suc k) e = omega arith

module _ (n : Stakes) (L : List Link) (marks : Marks) where
  -- a round without unique famous witnesses receives nothing
  pub none_received : (x r : ℕ) → length (famous_places n L marks r) ≡ 0 → can_receive n L marks x r ≡ false
  unfolding can_receive famous_places
  none_received x r none =
      let any : some_below (length L) (is_unique_famous n L marks r) ≡ false =
      sym (none-list_below (λ w. w) (length L) (is_unique_famous n L marks r)) ∙ ap not (eq-eqb (length (list_below (λ w. w) (length L) (is_unique_famous n L marks r))) 0 none) in
      and_left (is_closed n L marks r && some_below (length L) (is_unique_famous n L marks r)) (not (some_below (length L) (is_without n L marks r x)))
      (and_right (is_closed n L marks r) (some_below (length L) (is_unique_famous n L marks r)) any)

  found_can : (o : Option ℕ) (x r : ℕ) → IfSome o (IsFoundBelow (can_receive n L marks x) (suc (length L))) → (is_some o && eqb (unwrap_or o 0) r) ≡ true → can_receive n L marks x r ≡ true
  found_can None x r found e = absurd cc
  found_can (Some k) x r found e = subst (λ s. can_receive n L marks x s ≡ true) (eqb-true k r e) found.1

  -- what is received in a round can be received there
  pub received_can : (x r : ℕ) → is_received_in n L marks (λ k. eqb k r) x ≡ true → can_receive n L marks x r ≡ true
  unfolding round_received
  received_can x r e = found_can (round_received n L marks x) x r (least_below_found (λ r. r) (suc (length L)) (can_receive n L marks x)) e

  can_some : (x r : ℕ) → can_receive n L marks x r ≡ true → 0 < length (famous_places n L marks r)
  unfolding can_receive famous_places
  can_some x r e =
      let places = list_below (λ w. w) (length L) (is_unique_famous n L marks r) in
      let any = (and_parts (is_closed n L marks r) (some_below (length L) (is_unique_famous n L marks r)) (and_parts (is_closed n L marks r && some_below (length L) (is_unique_famous n L marks r)) (not (some_below (length L) (is_without n L marks r x))) e).0).1 in
      let differ = not-true (eqb (length places) 0) (none-list_below (λ w. w) (length L) (is_unique_famous n L marks r) ∙ any) in
      pos_from (length places) differ

  can_all : (x r : ℕ) → can_receive n L marks x r ≡ true → all_have L (famous_places n L marks r) x ≡ true
  unfolding can_receive famous_places
  can_all x r e =
      list_all-list_below (λ w. is_ancestor L w x) (length L) (is_unique_famous n L marks r)
      ∙ (and_parts (is_closed n L marks r && some_below (length L) (is_unique_famous n L marks r)) (not (some_below (length L) (is_without n L marks r x))) e).1

-- all that a round receives stands below all of its unique famous witnesses
pub received_below : (g : Graph) (marks : Marks) (r : ℕ) → AllByRecursion (IsBelowAll g (famous_of g marks r)) (received_places g marks r)
received_below g marks r =
    all_list_below (IsBelowAll g (famous_of g marks r)) (λ x. x) (length (links_of g)) (is_received_in g.members (links_of g) marks (λ k. eqb k r))
    (λ x h e. (h, can_all g.members (links_of g) marks x r (received_can g.members (links_of g) marks x r e)))

first_of : (P : ℕ → Type 0) (xs : List ℕ) → AllByRecursion P xs → 0 < length xs → (x : ℕ) × P x
first_of P [] all some = absurd (omega arith)
first_of P (x ∷ xs) all some = (x, all.0)

-- where a round receives something it has a unique famous witness
pub received_some : (g : Graph) (marks : Marks) (r : ℕ) → 0 < length (received_places g marks r) → 0 < length (famous_of g marks r)
received_some g marks r some =
    let P : ℕ → Type 0 = λ x. can_receive g.members (links_of g) marks x r ≡ true in
    let first = first_of P (received_places g marks r)
    (all_list_below P (λ x. x) (length (links_of g)) (is_received_in g.members (links_of g) marks (λ k. eqb k r)) (λ x h e. received_can g.members (links_of g) marks x r e)) some in
    can_some g.members (links_of g) marks first.0 r first.1

-- the rows of a round that is not closed, or has no unique famous witness
pub none_where_open : (n : Stakes) (L : List Link) (marks : Marks) (x r : ℕ) → is_closed n L marks r ≡ false → can_receive n L marks x r ≡ false
unfolding can_receive
none_where_open n L marks x r not_closed =
    let some = some_below (length L) (is_unique_famous n L marks r) in
    let without = some_below (length L) (is_without n L marks r x) in
    and_left (is_closed n L marks r && some) (not without) (and_left (is_closed n L marks r) some not_closed)
