-- A member without a fork has its rows in one chain: how the premises of the core law are met
use Rattle.std.proofs.Common.{◌≡◌, ℕ, ◌<◌, ◌≤◌, true, false, List, [], ◌∷◌, length, map, get_or, Option, Some, None, option_map, slice_get, sym, refl, ap, ◌∙◌, subst, inl, inr, arith}
use Rattle.std.proofs.lemmas.Bool.{or_cases, eqb-true, true≢false}
use Rattle.std.proofs.lemmas.Option.{slice_get-get_or, get_or_from_slice_get}
use Rattle.hg_model.specs.declared.row.Row.{Row}
use Rattle.hg_model.specs.Places.{has_place}
use Rattle.hg_model.specs.Stakes.{Stakes}
use Rattle.hg_model.specs.Links.{parent_names, place_of, links, first_place, self_parent, ParentNames}
use Rattle.hg_model.specs.Forks.{has_fork}
use Rattle.hg_model.specs.Graph.{name_in, name_at, HasDistinctNames, IsShaped, IsGraph}
use Rattle.hg_model.specs.Chains.{self_parent_name_in, self_parent_name, IsChain}
use Rattle.hg_model.proofs.AncestryLaws.{self_parent_earlier, is_self_ancestor_cases, is_self_ancestor-le}
use Rattle.hg_model.proofs.LinkLaws.{length-links, self_parent-links}
use Rattle.hg_model.proofs.PushLaws.{nobody, row_creator-links}
use Rattle.hg_model.proofs.SightLaws.{in_line}
use Rattle.hg_prefix.specs.Standing.{StandsIn}
use Rattle.hg_prefix.specs.Chains.{HaveEqualRows, HasOneChain}
use Rattle.hg_prefix.proofs.StandingLaws.{name_at_place}

named_first : (place : List ℕ → ℕ) (names : ParentNames) (p : ℕ) → has_place (first_place (map place (parent_names names))) p ≡ true →
    (name : List ℕ) × (option_map (λ both. both.0) names ≡ Some name) × (place name ≡ p)
named_first place None p has = absurd (true≢false (sym has))
named_first place (Some both) p has = elim (or_cases (Rattle.std.proofs.Common.eqb (place both.0) p) false has) [
  | inl same ↦ (both.0, refl, eqb-true (place both.0) p same)
  | inr none ↦ absurd (true≢false (sym none))
]

-- the name of a self-parent that stands in the graph
name_of_self_parent : (G : List Row) (x p : ℕ) → x < length G → p < length G → has_place (self_parent (links G) x) p ≡ true → self_parent_name G x ≡ Some (name_at G p)
name_of_self_parent G x p inside inside_p has =
    let row : Row = get_or G x nobody in
    let at : slice_get G x ≡ Some row = slice_get-get_or G x nobody inside in
    let found = named_first (place_of G) row.parents p (subst (λ ps. has_place ps p ≡ true) (self_parent-links G x row inside (sym (get_or_from_slice_get G x row row at))) has) in
    let name_is : name_at G p ≡ found.0 = ap (name_at G) (sym found.2) ∙ name_at_place G found.0 (rw found.2 inside_p) in
    ap self_parent_name_in at ∙ (found.1 ∙ ap (λ (name : List ℕ). Some name) (sym name_is))

pub chain_of_no_fork : (n : Stakes) (m : ℕ) (G : List Row) → HasDistinctNames G → IsShaped n (links G) → has_fork (links G) m ≡ false → IsChain m G
chain_of_no_fork n m G distinct shaped none = record {
  distinct = distinct;
  joined = λ x y low inside by_x by_y.
      let e = shaped.earlier in
      let len : length (links G) ≡ length G = length-links G in
      elim (in_line (links G) m y x (omega arith) (omega arith) (row_creator-links G y ∙ by_y) (row_creator-links G x ∙ by_x) none) [
        | inr below ↦ absurd (let le = is_self_ancestor-le (links G) e x y below in omega arith)
        | inl above ↦ elim (is_self_ancestor_cases (links G) e y x above) [
          | inl same ↦ absurd (omega arith)
          | inr by ↦ (
              let p : ℕ = by.0 in
              let before : p < y = (self_parent_earlier (links G) e).earlier y p by.1 in
              (p, is_self_ancestor-le (links G) e p x by.2, before, name_of_self_parent G y p inside (omega arith) by.1))
        ]
      ];
}

-- a part of a graph, and the graph

pub equal_rows_of_part : (G H : List Row) → HasDistinctNames H → StandsIn G H → HaveEqualRows G H
unfolding name_at
equal_rows_of_part G H distinct stands = record {
  equal = λ x y inside_x inside_y same.
      let u = stands.row_in x inside_x in
      sym u.2 ∙ ap (slice_get H) (distinct.one u.0 y u.1 inside_y (ap name_in u.2 ∙ same));
}

pub one_chain_of_part : (n : Stakes) (m : ℕ) (G H : List Row) → IsGraph n H → StandsIn G H → has_fork (links H) m ≡ false → HasOneChain m G H
one_chain_of_part n m G H h stands none = record {
  line = H;
  chain = chain_of_no_fork n m H h.distinct h.shaped none;
  has_first = λ x inside by. stands.row_in x inside;
  has_second = λ y inside by. (y, inside, refl);
}
