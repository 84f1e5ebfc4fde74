-- The lists of witnesses, round by round, and the rows that a round received, told by the tables
use Rattle.std.proofs.Common.{◌≡◌, ℕ, suc, ◌<◌, eqb, List, [], length, get_or, Option, None, refl, sym, ap, ◌∙◌, inl, inr, arith}
use Rattle.std.proofs.lemmas.Bool.{cases_lt, and_right, ne_eqb}
use Rattle.std.proofs.lemmas.List.{get_or_past}
use Rattle.hg_model.specs.Places.{list_below}
use Rattle.hg_model.specs.Stakes.{Stakes}
use Rattle.hg_model.specs.Links.{Link}
use Rattle.hg_model.specs.Rounds.{round_of, is_witness, last_round}
use Rattle.hg_model.specs.Fame.{Marks, is_witness_of_round}
use Rattle.hg_model.specs.Order.{round_received}
use Rattle.hg_model.specs.Prefix.{Graph, links_of}
use Rattle.hg_model.specs.Standings.{standings_of, witnesses_in}
use Rattle.hg_model.proofs.PlacesLaws.{list_below-same, list_below_none, maximum_below_bounds}
use Rattle.hg_model.proofs.StandingLaws.{witnesses_in-standings}
use Rattle.hg_order.specs.Round.{received_places}
use Rattle.hg_plain_graph.specs.Tables.{IsTableOf}
use Rattle.hg_plain.specs.Held.{witnesses_of}
use Rattle.hg_plain.specs.Rounds.{is_round}

module _ (n : Stakes) (L : List Link) (r : ℕ) where
  -- no round above the greatest has witnesses
  none_above : last_round n L < r → witnesses_of n L r ≡ []
  unfolding witnesses_of last_round
  none_above above = list_below_none (λ w. w) (length L) (is_witness_of_round n L r) (λ w h.
      and_right (is_witness n L w) (eqb (round_of n L w) r) (ne_eqb (round_of n L w) r (λ e. absurd (omega (arith, e, maximum_below_bounds (round_of n L) (length L) w h)))))

  listed : witnesses_of n L r ≡ witnesses_in (standings_of n L) r
  unfolding witnesses_of
  listed = sym (witnesses_in-standings n L r)

  pub witnesses_known : (lists : List (List ℕ)) → IsTableOf [] (witnesses_of n L) (suc (last_round n L)) lists → get_or lists r [] ≡ witnesses_in (standings_of n L) r
  witnesses_known lists matches = elim (cases_lt r (suc (last_round n L))) [
    | inl below ↦ matches.at r below ∙ listed
    | inr above ↦ get_or_past lists r [] (omega (arith, matches.len)) ∙ (sym (none_above (omega arith)) ∙ listed)
  ]

-- the rows that a round received
pub received_known : (g : Graph) (marks : Marks) (r : ℕ) (received : List (Option ℕ)) → IsTableOf None (round_received g.members (links_of g) marks) (length (links_of g)) received →
    list_below (λ x. x) (length received) (λ x. is_round r (get_or received x None)) ≡ received_places g marks r
received_known g marks r received matches =
    rw matches.len (list_below-same (λ x. x) (λ x. x) (length (links_of g)) (λ x. is_round r (get_or received x None)) (λ x. is_round r (round_received g.members (links_of g) marks x))
    (λ x h. ap (is_round r) (matches.at x h)) (λ x h e. refl))
