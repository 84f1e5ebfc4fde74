-- The unique famous witnesses of one round: there is at most one by each member, and they are what is lone among the witnesses
use Rattle.std.proofs.Common.{◌≡◌, ℕ, ◌<◌, ◌≤◌, Bool, true, false, not, ◌&&◌, eqb, List, length, get_or, filter, count_by, fold, replicate, All, sym, refl, ap, ◌∙◌, inl, inr, arith}
use Rattle.std.specs.List.{AllByRecursion, list_any}
use Rattle.std.proofs.lemmas.Bool.{cases_eq, and_parts, and_from, eqb-true, eq-eqb, ne_eqb, not-true, not_from_false, both_ways}
use Rattle.std.proofs.Math.Bool.{and_assoc}
use Rattle.std.proofs.lemmas.List.Elements.{All-same, All-from_recursion}
use Rattle.std.proofs.lemmas.List.Folds.{fold-map}
use Rattle.std.proofs.lemmas.List.Sums.{length-filter}
use Rattle.hg_model.specs.declared.row.Row.{Row}
use Rattle.hg_model.specs.Places.{some_below, list_below}
use Rattle.hg_model.specs.Stakes.{Stakes, member_count}
use Rattle.hg_model.specs.Links.{Link, creator}
use Rattle.hg_model.specs.Ancestry.{is_ancestor}
use Rattle.hg_model.specs.Graph.{IsShaped}
use Rattle.hg_model.specs.Rounds.{round_of, is_witness}
use Rattle.hg_model.specs.Fame.{Marks, mark_at, is_yes, is_witness_of_round, is_famous_in, is_rival, is_unique_famous, is_closed}
use Rattle.hg_model.specs.Order.{famous_places, can_receive, sig_at, xor_bytes, whitening}
use Rattle.hg_model.specs.Prefix.{Graph, IsOfGraph, links_of}
use Rattle.hg_model.specs.Shape.{Shape}
use Rattle.hg_model.specs.Standings.{Standing, round_at, witnesses_in}
use Rattle.hg_model.specs.GraphWords.{famous_of}
use Rattle.hg_model.proofs.StandingLaws.{round_at-standings, witnesses_in-standings}
use Rattle.hg_model.proofs.PlacesLaws.{list_below-same, some_below-same, some_below_from}
use Rattle.hg_model.proofs.ListLaws.{sum_by-list_below, list_any-list_below, list_all-list_below, none-list_below, all_list_below, map-list_below, filter-list_below}
use Rattle.hg_model.proofs.SortLaws.{sum_of_ones}
use Rattle.hg_order.specs.Famous.{AreFamous, all_have, is_rival_to, is_lone, whitening_of}
use Rattle.hg_order.proofs.ImageLaws.{count_below-apart}

and_assoc_three : (a b c d : Bool) → (a && (b && c && d)) ≡ (a && b && c && d)
and_assoc_three true b c d = refl
and_assoc_three false b c d = refl

module _ (n : Stakes) (L : List Link) (marks : Marks) (r : ℕ) where
  witness_of : (y : ℕ) → is_unique_famous n L marks r y ≡ true → is_famous_in n L marks r y ≡ true
  unfolding is_unique_famous
  witness_of y e = (and_parts (is_famous_in n L marks r y) (not (some_below (length L) (is_rival n L marks r y))) e).0

  pub round_of_famous : (y : ℕ) → is_unique_famous n L marks r y ≡ true → round_of n L y ≡ r
  round_of_famous y e =
      let famous = and_parts (is_witness_of_round n L r y) (is_yes (mark_at marks y)) (witness_of y e) in
      eqb-true (round_of n L y) r (and_parts (is_witness n L y) (eqb (round_of n L y) r) famous.0).1

  -- there is one by each creator
  pub one_by_creator : (y z : ℕ) → y < length L → z < length L → is_unique_famous n L marks r y ≡ true → is_unique_famous n L marks r z ≡ true → creator L y ≡ creator L z → y ≡ z
  unfolding is_unique_famous
  one_by_creator y z hy hz e f same = elim (cases_eq y z) [
    | inl one ↦ one
    | inr two ↦
        (let parts = and_parts (is_famous_in n L marks r y) (not (some_below (length L) (is_rival n L marks r y))) e in
        let other = and_parts (is_famous_in n L marks r z) (not (some_below (length L) (is_rival n L marks r z))) f in
        let by_same = eqb (creator L z) (creator L y) in
        let rival : is_rival n L marks r y z ≡ true =
        and_from (is_famous_in n L marks r z && by_same) (not (eqb z y))
        (and_from (is_famous_in n L marks r z) by_same other.0 (eq-eqb (creator L z) (creator L y) (sym same)))
        (not_from_false (eqb z y) (ne_eqb z y (λ is. two (sym is)))) in
        absurd (both_ways (some_below (length L) (is_rival n L marks r y)) (not-true (some_below (length L) (is_rival n L marks r y)) parts.1)
        (some_below_from (length L) (is_rival n L marks r y) z hz rival)))
  ]

  famous_all : (P : ℕ → Type 0) → ((w : ℕ) → w < length L → is_unique_famous n L marks r w ≡ true → P w) → AllByRecursion P (famous_places n L marks r)
  unfolding famous_places
  famous_all P at = all_list_below P (λ w. w) (length L) (is_unique_famous n L marks r) at

  -- and so no more than members
  pub famous_few : IsShaped n L → length (famous_places n L marks r) ≤ member_count n
  unfolding famous_places
  famous_few s =
      let places = list_below (λ w. w) (length L) (is_unique_famous n L marks r) in
      let count = sum_by-list_below (λ _. 1) (λ w. w) (length L) (is_unique_famous n L marks r) in
      omega (arith, sum_of_ones places, count, count_below-apart (creator L) (length L) (member_count n) (is_unique_famous n L marks r) s.members one_by_creator)

  -- among the witnesses of the round a lone famous one is a unique famous one

  rivals : (y : ℕ) → list_any (is_rival_to L marks y) (list_below (λ w. w) (length L) (is_witness_of_round n L r))
      ≡ some_below (length L) (is_rival n L marks r y)
  rivals y =
      list_any-list_below (is_rival_to L marks y) (length L) (is_witness_of_round n L r)
      ∙ some_below-same (length L) (λ z. is_witness_of_round n L r z && is_rival_to L marks y z) (is_rival n L marks r y)
      (λ z h. and_assoc_three (is_witness_of_round n L r z) (is_yes (mark_at marks z)) (eqb (creator L z) (creator L y)) (not (eqb z y)))

  pub lone_are_famous : filter (is_lone L marks (list_below (λ w. w) (length L) (is_witness_of_round n L r))) (list_below (λ w. w) (length L) (is_witness_of_round n L r)) ≡ famous_places n L marks r
  unfolding famous_places is_unique_famous
  lone_are_famous =
      let witnesses = list_below (λ w. w) (length L) (is_witness_of_round n L r) in
      filter-list_below (is_lone L marks witnesses) (λ w. w) (length L) (is_witness_of_round n L r)
      ∙ list_below-same (λ w. w) (λ w. w) (length L) (λ y. is_witness_of_round n L r y && is_lone L marks witnesses y) (is_unique_famous n L marks r)
      (λ y h.
      ap (λ b. is_witness_of_round n L r y && (is_yes (mark_at marks y) && not b)) (rivals y)
      ∙ sym (and_assoc (is_witness_of_round n L r y) (is_yes (mark_at marks y)) (not (some_below (length L) (is_rival n L marks r y)))))
      (λ y h passes. refl)

  -- what receives a row
  pub received_where_closed : (x : ℕ) → 0 < length (famous_places n L marks r) → is_closed n L marks r ≡ true → all_have L (famous_places n L marks r) x ≡ can_receive n L marks x r
  unfolding famous_places can_receive
  received_where_closed x some closed =
      let places = list_below (λ w. w) (length L) (is_unique_famous n L marks r) in
      let any : some_below (length L) (is_unique_famous n L marks r) ≡ true =
      sym (none-list_below (λ w. w) (length L) (is_unique_famous n L marks r)) ∙ not_from_false (eqb (length places) 0) (ne_eqb (length places) 0 (λ none. absurd (omega arith))) in
      rw (closed, any) (list_all-list_below (λ w. is_ancestor L w x) (length L) (is_unique_famous n L marks r))

  pub whitening_is : (G : List Row) → whitening_of G (famous_places n L marks r) ≡ whitening n G L marks r
  unfolding whitening_of whitening famous_places
  whitening_is G =
      sym (fold-map xor_bytes (sig_at G) (replicate 64 0) (list_below (λ w. w) (length L) (is_unique_famous n L marks r)))
      ∙ ap (fold xor_bytes (replicate 64 0)) (map-list_below (sig_at G) (λ w. w) (length L) (is_unique_famous n L marks r))

-- the same of places that are unique famous witnesses by some marks

pub famous_within : (g : Graph) (places : List ℕ) → AreFamous g places → All (λ w. w < length (links_of g)) places
famous_within g places f =
    All-same (λ w. w < length (links_of g)) places (famous_of g f.marks f.round) f.are
    (All-from_recursion (λ w. w < length (links_of g)) (famous_of g f.marks f.round) (famous_all g.members (links_of g) f.marks f.round (λ w. w < length (links_of g)) (λ w h e. h)))

pub famous_at_most : (g : Graph) (places : List ℕ) → AreFamous g places → IsShaped g.members (links_of g) → length places ≤ member_count g.members
famous_at_most g places f s = rw f.are (famous_few g.members (links_of g) f.marks f.round s)

-- the loop over the witnesses of a round, which a table of standings lists

module _ (shape : Shape) (standings : List Standing) (g : Graph) (matches : IsOfGraph shape standings g) (s : IsShaped g.members (links_of g)) (marks : Marks) (r : ℕ) where
  witnesses_are : witnesses_in standings r ≡ list_below (λ w. w) (length (links_of g)) (is_witness_of_round g.members (links_of g) r)
  witnesses_are = ap (λ ss. witnesses_in ss r) matches.standing ∙ witnesses_in-standings g.members (links_of g) r

  pub witnesses_within : All (λ w. w < length shape.links) (witnesses_in standings r)
  witnesses_within =
      let listed = list_below (λ w. w) (length (links_of g)) (is_witness_of_round g.members (links_of g) r) in
      rw matches.shaped (All-same (λ w. w < length (links_of g)) (witnesses_in standings r) listed witnesses_are
      (All-from_recursion (λ w. w < length (links_of g)) listed (all_list_below (λ w. w < length (links_of g)) (λ w. w) (length (links_of g)) (is_witness_of_round g.members (links_of g) r) (λ w h e. h))))

  pub lone_is : filter (is_lone shape.links marks (witnesses_in standings r)) (witnesses_in standings r) ≡ famous_of g marks r
  lone_is = rw (matches.shaped, witnesses_are) (lone_are_famous g.members (links_of g) marks r)

  pub lone_counted : count_by (is_lone shape.links marks (witnesses_in standings r)) (witnesses_in standings r) ≡ length (famous_of g marks r)
  lone_counted = sym (length-filter (is_lone shape.links marks (witnesses_in standings r)) (witnesses_in standings r)) ∙ ap (λ (xs : List ℕ). length xs) lone_is

  pub lone_few : count_by (is_lone shape.links marks (witnesses_in standings r)) (witnesses_in standings r) ≤ member_count g.members
  lone_few = rw lone_counted (famous_few g.members (links_of g) marks r s)

-- all of them are of the round
round_of_all : (n : Stakes) (L : List Link) (marks : Marks) (r : ℕ) → AllByRecursion (λ w. (w < length L) × (round_of n L w ≡ r)) (famous_places n L marks r)
round_of_all n L marks r = famous_all n L marks r (λ w. (w < length L) × (round_of n L w ≡ r)) (λ w h e. (h, round_of_famous n L marks r w e))

pub round_is : (shape : Shape) (standings : List Standing) (g : Graph) → IsOfGraph shape standings g → (marks : Marks) (r i d : ℕ) (places : List ℕ) → places ≡ famous_of g marks r → i < length places →
    round_at standings (get_or places i d) ≡ r
round_is shape standings g matches marks r i d places are h =
    let P : ℕ → Type 0 = λ w. (w < length (links_of g)) × (round_of g.members (links_of g) w ≡ r) in
    let here = All-same P places (famous_of g marks r) are (All-from_recursion P (famous_of g marks r) (round_of_all g.members (links_of g) marks r)) i d h in
    ap (λ ss. round_at ss (get_or places i d)) matches.standing ∙ (round_at-standings g.members (links_of g) (get_or places i d) here.0 ∙ here.1)
