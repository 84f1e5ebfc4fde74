-- A member whose rows in a graph are rows of one chain has no fork there
use Rattle.std.proofs.Common.{◌≡◌, ℕ, zero, suc, ◌<◌, ◌≤◌, true, false, List, [], ◌∷◌, length, map, get_or, Some, None, option_map, slice_get, sym, ap, ◌∙◌, subst, inl, inr, arith}
use Rattle.std.proofs.lemmas.Bool.{cases_eq, cases_lt, both_ways, false_from_ne_true}
use Rattle.std.proofs.lemmas.Option.{slice_get-get_or, get_or_from_slice_get}
use Rattle.hg_model.specs.declared.row.Row.{Row}
use Rattle.hg_model.specs.Places.{has_place}
use Rattle.hg_model.specs.Stakes.{Stakes}
use Rattle.hg_model.specs.Links.{parent_names, place_of, links, first_place, self_parent, ParentNames}
use Rattle.hg_model.specs.Ancestry.{is_self_ancestor}
use Rattle.hg_model.specs.Forks.{has_fork}
use Rattle.hg_model.specs.Graph.{name_in, name_at, HasDistinctNames, IsShaped}
use Rattle.hg_model.specs.Graph.{creator_at, creator_of_row}
use Rattle.hg_model.specs.Chains.{self_parent_name_in, self_parent_name, IsChain}
use Rattle.hg_model.proofs.AncestryLaws.{self_parent_earlier, is_self_ancestor_self, is_self_ancestor_by}
use Rattle.hg_model.proofs.ForkLaws.{has_fork_found}
use Rattle.hg_model.proofs.LinkLaws.{length-links, self_parent-links}
use Rattle.hg_model.proofs.PushLaws.{nobody, row_creator-links}
use Rattle.hg_model.proofs.ReachLaws.{has_place_first}
use Rattle.hg_prefix.specs.Standing.{IsRowOf}
use Rattle.hg_prefix.proofs.StandingLaws.{name_at_place}

first_name : (place : List ℕ → ℕ) (names : ParentNames) (name : List ℕ) → option_map (λ both. both.0) names ≡ Some name → first_place (map place (parent_names names)) ≡ place name ∷ []
first_name place None name is = cc
first_name place (Some both) name is =
    let same : both.0 ≡ name = cc in
    ap (λ (k : List ℕ). place k ∷ []) same

-- a self-parent that is told by its name
self_parent_named : (U : List Row) (u : ℕ) (name : List ℕ) → u < length U → self_parent_name U u ≡ Some name → self_parent (links U) u ≡ place_of U name ∷ []
self_parent_named U u name inside is =
    let row : Row = get_or U u nobody in
    let at : slice_get U u ≡ Some row = slice_get-get_or U u nobody inside in
    self_parent-links U u row inside (sym (get_or_from_slice_get U u row row at))
    ∙ first_name (place_of U) row.parents name (sym (ap self_parent_name_in at) ∙ is)

module _ (n : Stakes) (m : ℕ) (U line : List Row) (distinct : HasDistinctNames U) (shaped : IsShaped n (links U)) (chain : IsChain m line) (of_line : (u : ℕ) → u < length U → creator_at U u ≡ m → IsRowOf U u line) where
  -- of two rows by m the one that is later in the chain has the other as self-ancestor
  above : (k u v x y : ℕ) → u < k → u < length U → v < length U → y < length line → slice_get line y ≡ slice_get U u → slice_get line x ≡ slice_get U v →
      creator_at U u ≡ m → creator_at U v ≡ m → x ≤ y → is_self_ancestor (links U) u v ≡ true
  unfolding name_at
  above zero u v x y low inside_u inside_v inside_y at_y at_x by_u by_v le = absurd (omega arith)
  above (suc k) u v x y low inside_u inside_v inside_y at_y at_x by_u by_v le = elim (cases_eq x y) [
    | inl same ↦ (
        let rows : slice_get U u ≡ slice_get U v = sym at_y ∙ (ap (slice_get line) (sym same) ∙ at_x) in
        let e : u ≡ v = distinct.one u v inside_u inside_v (ap name_in rows) in
        subst (λ w. is_self_ancestor (links U) u w ≡ true) e (is_self_ancestor_self (links U) shaped.earlier u))
    | inr other ↦ (
        let p = chain.joined x y (omega arith) inside_y (ap creator_of_row at_x ∙ by_v) (ap creator_of_row at_y ∙ by_u) in
        let p_low : p.0 < y = p.2 in
        let name : List ℕ = name_at line p.0 in
        let q : ℕ = place_of U name in
        let own : self_parent (links U) u ≡ q ∷ [] = self_parent_named U u name inside_u (sym (ap self_parent_name_in at_y) ∙ p.3) in
        let has : has_place (self_parent (links U) u) q ≡ true = subst (λ ps. has_place ps q ≡ true) (sym own) (has_place_first q []) in
        let before : q < u = (self_parent_earlier (links U) shaped.earlier).earlier u q has in
        let by_q : creator_at U q ≡ m = sym (row_creator-links U q) ∙ (shaped.self_by_same u q has ∙ (row_creator-links U u ∙ by_u)) in
        let z = of_line q (omega arith) by_q in
        let at_p : z.0 ≡ p.0 = chain.distinct.one z.0 p.0 z.1 (omega arith) (ap name_in z.2 ∙ name_at_place U name (omega arith)) in
        is_self_ancestor_by (links U) shaped.earlier u q v has
        (above k q v x p.0 (omega arith) (omega arith) inside_v (omega arith) (ap (slice_get line) (sym at_p) ∙ z.2) at_x by_q by_v p.1))
  ]

  pub no_fork : has_fork (links U) m ≡ false
  no_fork = false_from_ne_true (has_fork (links U) m) (λ forks.
      let f = has_fork_found (links U) m forks in
      let len : length (links U) ≡ length U = length-links U in
      let a : ℕ = f.0 in
      let b : ℕ = f.1 in
      let inside_a : a < length U = rw (← len) f.2 in
      let inside_b : b < length U = rw (← len) f.3 in
      let by_a : creator_at U a ≡ m = sym (row_creator-links U a) ∙ f.4.first in
      let by_b : creator_at U b ≡ m = sym (row_creator-links U b) ∙ f.4.second in
      let x = of_line a inside_a by_a in
      let y = of_line b inside_b by_b in
      elim (cases_lt x.0 y.0) [
        | inl lower ↦ both_ways (is_self_ancestor (links U) b a) f.4.not_below (above (suc b) b a x.0 y.0 (omega arith) inside_b inside_a y.1 y.2 x.2 by_b by_a (omega arith))
        | inr upper ↦ both_ways (is_self_ancestor (links U) a b) f.4.not_above (above (suc a) a b y.0 x.0 (omega arith) inside_a inside_b x.1 x.2 y.2 by_a by_b upper)
      ])
