-- What a prefix tells, as what its graph has
use Rattle.std.proofs.Common.{◌≡◌, ◌∙◌, ℕ, ◌+◌, ◌-◌, ◌<◌, Bool, ◌&&◌, not, leb, eqb, List, length, is_some, sym, ap, ap₂, subst, arith}
use Rattle.std.specs.Prelude.{All}
use Rattle.std.specs.List.{AllByRecursion, list_all}
use Rattle.std.proofs.lemmas.List.Elements.{All-from_recursion}
use Rattle.hg_model.specs.Graph.{IsShaped}
use Rattle.hg_model.specs.Rounds.{round_of, is_witness}
use Rattle.hg_model.specs.Fame.{Marks, mark_at, is_closed, is_witness_of_round}
use Rattle.hg_model.specs.Prefix.{Graph, links_of, IsOfGraph}
use Rattle.hg_model.specs.Shape.{Shape}
use Rattle.hg_model.specs.Standings.{Standing, round_at, witness_at, witnesses_in}
use Rattle.hg_model.proofs.LinkLaws.{length-links}
use Rattle.hg_model.proofs.ListLaws.{all_list_below}
use Rattle.hg_model.proofs.PrefixLaws.{rows_known}
use Rattle.hg_model.proofs.StandingLaws.{round_at-standings, witness_at-standings, witnesses_in-standings}
use Rattle.hg_kept.specs.Published.{IsReached, is_last_late}
use Rattle.hg_kept.proofs.NextLaws.{next_closed}

module _ (shape : Shape) (S : List Standing) (g : Graph) (matches : IsOfGraph shape S g) where
  -- the witnesses of a round have places for their marks
  pub witnesses_inside : (r : ℕ) (witnesses : List ℕ) → witnesses ≡ witnesses_in S r → (marks : Marks) → length marks ≡ length g.rows → All (λ w. w < length marks) witnesses
  witnesses_inside r witnesses are marks even =
      let n = g.members in
      let L = links_of g in
      let len = length-links g.rows in
      All-from_recursion (λ w. w < length marks) witnesses
      (subst (AllByRecursion (λ w. w < length marks)) (sym (are ∙ (ap (λ (T : List Standing). witnesses_in T r) matches.standing ∙ witnesses_in-standings n L r)))
      (all_list_below (λ w. w < length marks) (λ x. x) (length L) (is_witness_of_round n L r) (λ x inside passes. omega arith)))

  -- and tell whether it is closed, where it comes next
  pub next_known : IsShaped g.members (links_of g) → (marks : Marks) (m : ℕ) → IsReached g marks m → (witnesses : List ℕ) → witnesses ≡ witnesses_in S (m + 1) →
      (not (eqb (length witnesses) 0) && list_all (λ w. is_some (mark_at marks w)) witnesses) ≡ is_closed g.members (links_of g) marks (m + 1)
  next_known shaped marks m reached witnesses are =
      next_closed g marks shaped.earlier m reached witnesses (are ∙ ap (λ (T : List Standing). witnesses_in T (m + 1)) matches.standing)

  -- and whether the last row is late
  pub late_known : 0 < length g.rows → (x closed : ℕ) → x ≡ length shape.links - 1 → (witness_at S x && leb (round_at S x) closed) ≡ is_last_late g closed
  late_known some x closed last =
      let n = g.members in
      let L = links_of g in
      let rows = rows_known shape S g matches in
      let at : x ≡ length g.rows - 1 = omega arith in
      let inside : x < length L = omega (arith, length-links g.rows) in
      ap (λ (T : List Standing). witness_at T x && leb (round_at T x) closed) matches.standing
      ∙ (ap₂ (λ (b : Bool) (r : ℕ). b && leb r closed) (witness_at-standings n L x inside) (round_at-standings n L x inside)
      ∙ ap (λ (k : ℕ). is_witness n L k && leb (round_of n L k) closed) at)
