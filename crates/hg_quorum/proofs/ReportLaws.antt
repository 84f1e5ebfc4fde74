-- The report's wording of strongly seeing against this project's
use Rattle.std.proofs.Common.{◌≡◌, ℕ, suc, ◌*◌, ◌<◌, ◌≤◌, Bool, true, false, not, ◌&&◌, eqb, List, ap, ◌∙◌, arith}
use Rattle.std.proofs.lemmas.Bool.{and_parts, and_from, ltb-true, lt-ltb, not_from_false}
use Rattle.hg_model.specs.Places.{IsEarlier}
use Rattle.hg_model.specs.Stakes.{Stakes, member_count, stake_of, stake_where, total}
use Rattle.hg_model.specs.Links.{Link, parents, creator}
use Rattle.hg_model.specs.Ancestry.{is_ancestor}
use Rattle.hg_model.specs.Forks.{has_fork_below}
use Rattle.hg_model.specs.Seeing.{sees, sees_by, sees_through, strongly_sees, strongly_sees_in_report, is_supermajority}
use Rattle.hg_model.proofs.PlacesLaws.{some_below_found, some_below-same, weight_below-le, weight_below-same}
use Rattle.hg_model.proofs.ReachLaws.{bool_iff}
use Rattle.hg_model.proofs.SightLaws.{some_ancestor_with, sees-is_ancestor, strongly_sees-is_ancestor}

module _ (L : List Link) (e : IsEarlier (parents L)) where
  -- whom x sees through in the report's words, it sees through in this project's
  sees_by-sees_through : (x y m : ℕ) → sees_by L x y m ≡ true → sees_through L x y m ≡ true
  unfolding sees_by sees_through
  sees_by-sees_through x y m h =
      let test : ℕ → Bool = λ v. eqb (creator L v) m && sees L v y in
      let z = some_below_found (suc x) (λ v. sees L x v && test v) h in
      let parts = and_parts (sees L x z.0) (test z.0) z.2 in
      some_ancestor_with L e x z.0 test (sees-is_ancestor L e x z.0 parts.0) parts.1

  pub strongly_sees-from_report : (n : Stakes) (x y : ℕ) → strongly_sees_in_report n L x y ≡ true → strongly_sees n L x y ≡ true
  unfolding strongly_sees_in_report strongly_sees
  strongly_sees-from_report n x y h =
      let theirs = stake_where n (sees_by L x y) in
      let ours = stake_where n (sees_through L x y) in
      let more : theirs ≤ ours = weight_below-le (stake_of n) (member_count n) (sees_by L x y) (sees_through L x y) (λ m hm t. sees_by-sees_through x y m t) in
      let many : 2 * total n < 3 * theirs = ltb-true (2 * total n) (3 * theirs) (and_parts (sees L x y) (is_supermajority (total n) theirs) h).1 in
      lt-ltb (2 * total n) (3 * ours) (omega arith)

  -- without forks below x its ancestors are what it sees
  sees-is : (x z : ℕ) → ((m : ℕ) → has_fork_below L x m ≡ false) → sees L x z ≡ is_ancestor L x z
  unfolding sees
  sees-is x z none = bool_iff (is_ancestor L x z && not (has_fork_below L x (creator L z))) (is_ancestor L x z)
      (λ h. (and_parts (is_ancestor L x z) (not (has_fork_below L x (creator L z))) h).0)
      (λ h. and_from (is_ancestor L x z) (not (has_fork_below L x (creator L z))) h (not_from_false (has_fork_below L x (creator L z)) (none (creator L z))))

  sees_by-is : (x y m : ℕ) → ((m : ℕ) → has_fork_below L x m ≡ false) → sees_by L x y m ≡ sees_through L x y m
  unfolding sees_by sees_through
  sees_by-is x y m none =
      let test : ℕ → Bool = λ v. eqb (creator L v) m && sees L v y in
      some_below-same (suc x) (λ v. sees L x v && test v) (λ v. is_ancestor L x v && test v) (λ v h. ap (λ b. b && test v) (sees-is x v none))

  -- and so the two wordings are one
  pub strongly_sees-is_report : (n : Stakes) (x y : ℕ) → ((m : ℕ) → has_fork_below L x m ≡ false) → strongly_sees_in_report n L x y ≡ strongly_sees n L x y
  unfolding strongly_sees_in_report
  strongly_sees-is_report n x y none = bool_iff (strongly_sees_in_report n L x y) (strongly_sees n L x y) (strongly_sees-from_report n x y) (λ s.
      and_from (sees L x y) (is_supermajority (total n) (stake_where n (sees_by L x y)))
      (sees-is x y none ∙ strongly_sees-is_ancestor L e n x y s)
      (unfold strongly_sees in (ap (is_supermajority (total n)) (weight_below-same (stake_of n) (member_count n) (sees_by L x y) (sees_through L x y) (λ m h. sees_by-is x y m none)) ∙ s)))
