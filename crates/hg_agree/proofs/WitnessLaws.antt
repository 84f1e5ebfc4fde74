-- The laws of witnesses: rounds grow with ancestry, and each stands on a quorum of witnesses of the round before
use Rattle.std.proofs.Common.{◌≡◌, ◌≢◌, ℕ, zero, suc, ◌+◌, ◌-◌, ◌*◌, ◌<◌, ◌≤◌, Bool, true, ltb, List, [], length, sym, refl, ◌∙◌, inl, inr, ◌⊎◌, arith}
use Rattle.std.proofs.lemmas.Bool.{and_from, cases_eq, cases_lt, ltb-true, lt-ltb, false_from_ne_true}
use Rattle.hg_model.specs.Places.{has_place, IsEarlier}
use Rattle.hg_model.specs.Stakes.{Stakes, member_count, stake_of, stake_where, total}
use Rattle.hg_model.specs.Links.{Link, parents, self_parent, creator}
use Rattle.hg_model.specs.Ancestry.{is_ancestor, is_self_ancestor}
use Rattle.hg_model.specs.Forks.{forking}
use Rattle.hg_model.specs.Seeing.{strongly_sees, is_supermajority}
use Rattle.hg_model.specs.Rounds.{parent_round, is_seen_witness, round_of, is_witness, stake_at, weight_of}
use Rattle.hg_model.specs.Graph.{IsShaped}
use Rattle.hg_quorum.proofs.ForkSightLaws.{fork_seen_once}
use Rattle.hg_model.proofs.SeenLaws.{SeenWitness, seen_witness_is, is_seen_witness_from}
use Rattle.hg_model.proofs.PlacesLaws.{weight_below_found, weight_below_grows}
use Rattle.hg_quorum.proofs.QuorumLaws.{members_with, weight_below-members}
use Rattle.hg_model.proofs.ReachLaws.{has_place_first}
use Rattle.hg_model.proofs.AncestryLaws.{self_parent_is_parent, is_ancestor_self, is_ancestor_by, is_ancestor-trans, is_ancestor_cases, is_self_ancestor_cases}
use Rattle.hg_model.proofs.GraphLaws.{list_all_at}
use Rattle.hg_model.proofs.ForkLaws.{Fork, is_fork_from, self_parent_cases}
use Rattle.hg_model.proofs.RoundLaws.{greatest_round_found, round_of_cases, round_of-parent-le}
use Rattle.hg_model.proofs.SightLaws.{is_ancestor-from_self, strongly_sees_grows, strongly_sees-is_ancestor}

module _ (n : Stakes) (L : List Link) (e : IsEarlier (parents L)) where
  grows_to : (k x y : ℕ) → x < k → is_ancestor L x y ≡ true → round_of n L y ≤ round_of n L x
  grows_to zero x y h up = absurd (omega arith)
  grows_to (suc k) x y h up = elim (is_ancestor_cases L e x y up) [
    | inl same ↦ rw same (omega arith)
    | inr by ↦ (let before : by.0 < x = e.earlier x by.0 by.1 in
        omega (arith, round_of-parent-le n L e x by.0 by.1, grows_to k by.0 y (omega arith) by.2))
  ]

  -- rounds do not fall along ancestry
  pub round_of_grows : (x y : ℕ) → is_ancestor L x y ≡ true → round_of n L y ≤ round_of n L x
  round_of_grows x y up = grows_to (suc x) x y (omega arith) up

  -- the self-ancestors of a witness, itself left out, are in earlier rounds
  pub witness_above : (x y : ℕ) → x ≢ y → is_self_ancestor L x y ≡ true → is_witness n L x ≡ true → round_of n L y < round_of n L x
  unfolding is_witness
  witness_above x y apart s w = elim (is_self_ancestor_cases L e x y s) [
    | inl same ↦ absurd (apart same)
    | inr by ↦
        (let low = round_of_grows by.0 y (is_ancestor-from_self L e by.0 y by.2) in
        let passes = list_all_at (λ p. ltb (round_of n L p) (round_of n L x)) (self_parent L x) by.0 by.1 w in
        omega (arith, low, ltb-true (round_of n L by.0) (round_of n L x) passes))
  ]

  -- who made two witnesses of one round forked there
  pub witnesses_fork : (m a b : ℕ) → a ≢ b → creator L a ≡ m → creator L b ≡ m → is_witness n L a ≡ true → is_witness n L b ≡ true → round_of n L a ≡ round_of n L b → Fork L m a b
  witnesses_fork m a b apart by_a by_b wa wb same = record {
    first = by_a;
    second = by_b;
    not_above = false_from_ne_true (is_self_ancestor L a b) (λ s. absurd (omega (arith, same, witness_above a b apart s wa)));
    not_below = false_from_ne_true (is_self_ancestor L b a) (λ s. absurd (omega (arith, same, witness_above b a (λ k. apart (sym k)) s wb)));
  }

  quorum_to : (k x r : ℕ) → x < k → 0 < r → round_of n L x ≡ r + 1 → is_supermajority (total n) (weight_of n L x (is_seen_witness (round_of n L) n L r x)) ≡ true
  quorum_to zero x r h pos is = absurd (omega arith)
  quorum_to (suc k) x r h pos is = elim (round_of_cases n L e x) [
    | inl up ↦ (let same : parent_round (round_of n L) (parents L x) ≡ r = omega (arith, up.1) in rw same at up.0)
    | inr stay ↦ elim (greatest_round_found (round_of n L) (parents L x)) [
      | inl one ↦ absurd (omega (arith, stay.1))
      | inr found ↦
          (let p : ℕ = found.0 in
          let before : p < x = e.earlier x p found.1 in
          let up = is_ancestor_by L e x p p found.1 (is_ancestor_self L e p) in
          let below = weight_of n L p (is_seen_witness (round_of n L) n L r p) in
          let above = weight_of n L x (is_seen_witness (round_of n L) n L r x) in
          let many : 2 * total n < 3 * below = ltb-true (2 * total n) (3 * below) (quorum_to k p r (omega arith) pos (omega (arith, stay.1, found.2))) in
          let more : below ≤ above = weight_below_grows (stake_at n L) p x (is_seen_witness (round_of n L) n L r p) (is_seen_witness (round_of n L) n L r x) (omega arith) (λ w hw t.
          let s = seen_witness_is n L r p w t in
          is_seen_witness_from n L r x w (record { is_witness = s.is_witness; in_round = s.in_round; seen = strongly_sees_grows L e n x p w up s.seen })) in
          lt-ltb (2 * total n) (3 * above) (omega arith))
    ]
  ]

  -- a row of round r + 1 strongly sees witnesses of round r that weigh more than two thirds of the stake
  pub round_quorum : (x r : ℕ) → 0 < r → round_of n L x ≡ r + 1 → is_supermajority (total n) (weight_of n L x (is_seen_witness (round_of n L) n L r x)) ≡ true
  round_quorum x r pos is = quorum_to (suc x) x r (omega arith) pos is

  -- one of them
  pub seen_witness_below : (x r : ℕ) → 0 < r → round_of n L x ≡ r + 1 → (w : ℕ) × (w < x) × SeenWitness n L r x w
  seen_witness_below x r pos is =
      let weight = weight_of n L x (is_seen_witness (round_of n L) n L r x) in
      let many : 2 * total n < 3 * weight = ltb-true (2 * total n) (3 * weight) (round_quorum x r pos is) in
      let w = weight_below_found (stake_at n L) x (is_seen_witness (round_of n L) n L r x) (omega arith) in
      (w.0, w.1, seen_witness_is n L r x w.0 w.2)

  -- a row is a witness, or its self-parent is in its round
  witness_or_parent : (x : ℕ) → (is_witness n L x ≡ true) ⊎ ((p : ℕ) × (has_place (parents L x) p ≡ true) × (round_of n L p ≡ round_of n L x))
  unfolding is_witness
  witness_or_parent x = elim (self_parent_cases L x) [
    | inl none ↦ inl (rw none refl)
    | inr one ↦
        (let p : ℕ = one.0 in
        let parent = self_parent_is_parent L x p (rw one.1 (has_place_first p [])) in
        elim (cases_lt (round_of n L p) (round_of n L x)) [
          | inl lower ↦ inl (rw one.1 (and_from (ltb (round_of n L p) (round_of n L x)) true (lt-ltb (round_of n L p) (round_of n L x) lower) refl))
          | inr same ↦ inr (p, parent, omega (arith, round_of-parent-le n L e x p parent))
        ])
  ]

  below_to : (k x r : ℕ) → x < k → 0 < r → r ≤ round_of n L x → (z : ℕ) × (is_ancestor L x z ≡ true) × (is_witness n L z ≡ true) × (round_of n L z ≡ r)
  below_to zero x r h pos le = absurd (omega arith)
  below_to (suc k) x r h pos le = elim (cases_lt r (round_of n L x)) [
    | inl lower ↦
        (let w = seen_witness_below x (round_of n L x - 1) (omega arith) (omega arith) in
        let before : w.0 < x = w.1 in
        let there = w.2.in_round in
        let z = below_to k w.0 r (omega arith) pos (omega arith) in
        (z.0, is_ancestor-trans L e x w.0 z.0 (strongly_sees-is_ancestor L e n x w.0 w.2.seen) z.1, z.2, z.3))
    | inr here ↦ elim (witness_or_parent x) [
      | inl first ↦ (x, is_ancestor_self L e x, first, omega arith)
      | inr by ↦
          (let before : by.0 < x = e.earlier x by.0 by.1 in
          let there = by.2 in
          let z = below_to k by.0 r (omega arith) pos (omega arith) in
          (z.0, is_ancestor_by L e x by.0 z.0 by.1 z.1, z.2, z.3))
    ]
  ]

  -- a row has a witness among its ancestors in each round up to its own
  pub witness_below : (x r : ℕ) → 0 < r → r ≤ round_of n L x → (z : ℕ) × (is_ancestor L x z ≡ true) × (is_witness n L z ≡ true) × (round_of n L z ≡ r)
  witness_below x r pos le = below_to (suc x) x r (omega arith) pos le

module _ (n : Stakes) (L : List Link) (s : IsShaped n L) (few : 3 * forking n L < total n) where
  -- of one member's witnesses of one round at most one is strongly seen, by whatever rows
  pub one_witness_seen : (r x y a b : ℕ) → x < length L → y < length L → SeenWitness n L r x a → SeenWitness n L r y b → creator L a ≡ creator L b → a ≡ b
  one_witness_seen r x y a b hx hy seen_a seen_b same = elim (cases_eq a b) [
    | inl one ↦ one
    | inr apart ↦
        (let fork = witnesses_fork n L s.earlier (creator L b) a b apart same refl seen_a.is_witness seen_b.is_witness (seen_a.in_round ∙ sym seen_b.in_round) in
        absurd (fork_seen_once n L s few (creator L b) a b x y hx hy (is_fork_from L (creator L b) a b fork) seen_a.seen seen_b.seen))
  ]

  -- so witnesses of round r that x strongly sees weigh no more than their members
  pub seen_witnesses-le : (r x bound : ℕ) (test : ℕ → Bool) → x < length L → bound ≤ length L → ((w : ℕ) → w < bound → test w ≡ true → SeenWitness n L r x w) →
      weight_of n L bound test ≤ stake_where n (members_with (creator L) bound test)
  seen_witnesses-le r x bound test hx hbound seen =
      weight_below-members (stake_of n) (creator L) (member_count n) bound test (λ w h t. s.members w (omega arith))
      (λ a b ha hb ta tb same. one_witness_seen r x x a b hx hx (seen a ha ta) (seen b hb tb) same)
