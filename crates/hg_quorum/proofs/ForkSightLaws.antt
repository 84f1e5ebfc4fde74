-- Of the two rows of a fork at most one is strongly seen
use Rattle.std.proofs.Common.{◌≡◌, ℕ, ◌*◌, ◌<◌, ◌≤◌, true, List, length, inl, inr, arith}
use Rattle.std.proofs.lemmas.Bool.{ltb-true, both_ways}
use Rattle.hg_model.specs.Stakes.{Stakes, member_count, stake_of, stake_where, total}
use Rattle.hg_model.specs.Links.{Link, creator}
use Rattle.hg_model.specs.Ancestry.{is_ancestor}
use Rattle.hg_model.specs.Forks.{is_fork, has_fork_below, has_fork, forking}
use Rattle.hg_model.specs.Seeing.{sees, sees_through, strongly_sees}
use Rattle.hg_model.specs.Graph.{IsShaped}
use Rattle.hg_model.proofs.PlacesLaws.{total-all}
use Rattle.hg_quorum.proofs.QuorumLaws.{quorums_meet}
use Rattle.hg_model.proofs.AncestryLaws.{is_ancestor-trans}
use Rattle.hg_model.proofs.ForkLaws.{fork_is}
use Rattle.hg_model.proofs.SightLaws.{has_fork_below_from, sees_through_found, in_line, sees-is_ancestor, is_ancestor-from_self, sees-no_fork}

module _ (n : Stakes) (L : List Link) (s : IsShaped n L) where
  -- no row above both sides of a fork sees a row by the one who made it
  no_sight_past_fork : (m a b z y : ℕ) → is_fork L m a b ≡ true → is_ancestor L z a ≡ true → is_ancestor L z b ≡ true → creator L y ≡ m → sees L z y ≡ true → ⊥
  no_sight_past_fork m a b z y f up_a up_b by_y seen =
      both_ways (has_fork_below L z (creator L y)) (sees-no_fork L s.earlier z y seen) (rw by_y (has_fork_below_from L s.earlier z a b m up_a up_b f))

  module _ (few : 3 * forking n L < total n) where
    few_forks : 3 * stake_where n (has_fork L) < total n
    unfolding forking
    few_forks = few

    -- rows that are a fork are not both strongly seen, even by different rows
    pub fork_seen_once : (m a b x y : ℕ) → x < length L → y < length L → is_fork L m a b ≡ true → strongly_sees n L x a ≡ true → strongly_sees n L y b ≡ true → ⊥
    unfolding strongly_sees
    fork_seen_once m a b x y hx hy f sees_a sees_b =
        let all = total-all n in
        let low = few_forks in
        let many_a : 2 * total n < 3 * stake_where n (sees_through L x a) = ltb-true (2 * total n) (3 * stake_where n (sees_through L x a)) sees_a in
        let many_b : 2 * total n < 3 * stake_where n (sees_through L y b) = ltb-true (2 * total n) (3 * stake_where n (sees_through L y b)) sees_b in
        let h = quorums_meet (stake_of n) (member_count n) (sees_through L x a) (sees_through L y b) (has_fork L) (omega (arith, many_a, all)) (omega (arith, many_b, all)) (omega (arith, low, all)) in
        let v = sees_through_found L s.earlier x a h.0 h.2 in
        let w = sees_through_found L s.earlier y b h.0 h.3 in
        let to_a : is_ancestor L v.0 a ≡ true = sees-is_ancestor L s.earlier v.0 a v.4 in
        let to_b : is_ancestor L w.0 b ≡ true = sees-is_ancestor L s.earlier w.0 b w.4 in
        let fork = fork_is L m a b f in
        let low_v : v.0 ≤ x = v.1 in
        let low_w : w.0 ≤ y = w.1 in
        elim (in_line L h.0 v.0 w.0 (omega arith) (omega arith) v.3 w.3 h.4) [
          | inl up ↦ no_sight_past_fork m a b v.0 a f to_a (is_ancestor-trans L s.earlier v.0 w.0 b (is_ancestor-from_self L s.earlier v.0 w.0 up) to_b) fork.first v.4
          | inr up ↦ no_sight_past_fork m a b w.0 b f (is_ancestor-trans L s.earlier w.0 v.0 a (is_ancestor-from_self L s.earlier w.0 v.0 up) to_a) to_b fork.second w.4
        ]
