-- What a prefix tells of its graph
use Rattle.std.proofs.Common.{◌≡◌, ℕ, ◌<◌, ◌&&◌, eqb, List, length, get_or, IsTrue, ap, subst, ◌∙◌, arith}
use Rattle.std.specs.List.{AllByRecursion}
use Rattle.std.proofs.lemmas.Bool.{and_parts, eqb-true}
use Rattle.std.proofs.lemmas.List.Elements.{All-from_recursion}
use Rattle.hg_model.specs.Graph.{IsShaped}
use Rattle.hg_model.specs.Rounds.{round_of, is_witness}
use Rattle.hg_model.specs.Shape.{Shape}
use Rattle.hg_model.specs.Standings.{Standing, standings_of, round_at, witnesses_in}
use Rattle.hg_model.specs.Prefix.{Graph, IsOfGraph, links_of}
use Rattle.hg_model.proofs.LinkLaws.{length-links}
use Rattle.hg_model.proofs.ListLaws.{all_list_below}
use Rattle.hg_model.proofs.StandingLaws.{length-standings, round_at-standings, witnesses_in-standings}

module _ (shape : Shape) (S : List Standing) (g : Graph) (matches : IsOfGraph shape S g) where
  pub shaped_known : IsShaped shape.members shape.links → IsShaped g.members (links_of g)
  shaped_known shaped = subst (λ (s : Shape). IsShaped s.members s.links) matches.shaped shaped

  pub rows_known : length shape.links ≡ length g.rows
  rows_known = ap (λ (s : Shape). length s.links) matches.shaped ∙ length-links g.rows

  pub standings_known : length S ≡ length g.rows
  standings_known = ap length matches.standing ∙ (length-standings g.members (links_of g) ∙ length-links g.rows)

-- the round that a prefix tells
pub round_read : (g : Graph) (S : List Standing) (x : ℕ) → S ≡ standings_of g.members (links_of g) → x < length g.rows → round_at S x ≡ round_of g.members (links_of g) x
round_read g S x matches h = ap (λ rounds. round_at rounds x) matches ∙ round_at-standings g.members (links_of g) x (omega (arith, length-links g.rows))

-- y is a witness of round r
pub record IsWitnessOf (g : Graph) (r y : ℕ) : Type 0 where
  pub place : y < length g.rows
  pub witness : IsTrue (is_witness g.members (links_of g) y)
  pub round : round_of g.members (links_of g) y ≡ r

-- the list of a round's witnesses
pub witnesses_are : (g : Graph) (r : ℕ) (S : List Standing) (ws : List ℕ) → S ≡ standings_of g.members (links_of g) → ws ≡ witnesses_in S r → AllByRecursion (IsWitnessOf g r) ws
witnesses_are g r S ws matches is =
    let n = g.members in
    let L = links_of g in
    rw (is, matches, witnesses_in-standings n L r)
    (all_list_below (IsWitnessOf g r) (λ y. y) (length L) (λ y. is_witness n L y && eqb (round_of n L y) r) (λ y h passes.
    let parts = and_parts (is_witness n L y) (eqb (round_of n L y) r) passes in
    record { place = omega (arith, length-links g.rows); witness = parts.0; round = eqb-true (round_of n L y) r parts.1 }))

pub witness_read : (g : Graph) (r : ℕ) (S : List Standing) (ws : List ℕ) (i : ℕ) → S ≡ standings_of g.members (links_of g) → ws ≡ witnesses_in S r → i < length ws → IsWitnessOf g r (get_or ws i 0)
witness_read g r S ws i matches is h = All-from_recursion (IsWitnessOf g r) ws (witnesses_are g r S ws matches is) i 0 h
