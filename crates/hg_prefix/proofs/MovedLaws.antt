-- Links that stand in a larger list at other places have there the same ancestry, sight, rounds and votes
use Rattle.std.proofs.Common.{◌≡◌, ◌≢◌, ℕ, zero, suc, ◌-◌, ◌<◌, ◌≤◌, Bool, true, ◌&&◌, not, ltb, eqb, max, List, [], ◌∷◌, length, map, sym, refl, ap, ◌∙◌, subst, inl, inr, arith}
use Rattle.std.proofs.Math.Bool.{and-true}
use Rattle.std.proofs.lemmas.Bool.{and_parts, and_from, or_cases, or_left, or_right, true≢false, eqb-true, eq-eqb}
use Rattle.std.specs.List.{list_all}
use Rattle.hg_model.specs.Places.{weight_below, has_place, reaches, IsEarlier}
use Rattle.hg_model.specs.Stakes.{Stakes, member_count, stake_of, total}
use Rattle.hg_model.specs.Links.{Link, parents, self_parent, first_place, creator}
use Rattle.hg_model.specs.Ancestry.{is_ancestor, is_self_ancestor, some_ancestor}
use Rattle.hg_model.specs.Forks.{is_fork, has_fork_below}
use Rattle.hg_model.specs.Seeing.{sees, sees_through, strongly_sees, is_supermajority}
use Rattle.hg_model.specs.Rounds.{parent_round, is_witness_by, is_seen_witness, round_of, is_witness, stake_at, weight_of}
use Rattle.hg_model.specs.Votes.{is_voter, vote_of, decides}
use Rattle.hg_model.proofs.PlacesLaws.{some_below_from, some_below_found, weight_below-same}
use Rattle.hg_model.proofs.ReachLaws.{bool_iff, reaches_self, reaches_by, reaches_cases}
use Rattle.hg_model.proofs.AncestryLaws.{self_parent_earlier, is_ancestor-le}
use Rattle.hg_model.proofs.SightLaws.{strongly_sees-is_ancestor}
use Rattle.hg_model.proofs.RoundLaws.{greatest_round-same, list_all-same, round_of-at}
use Rattle.hg_model.proofs.VoteLaws.{vote_of-at}
use Rattle.hg_prefix.proofs.WeightLaws.{weight_below-matched}

-- the links of L stand in V, that of x at `place x`
pub record IsMoved (L V : List Link) (place : ℕ → ℕ) : Type 0 where
  pub inside : (x : ℕ) → x < length L → place x < length V
  pub apart : (x y : ℕ) → x < length L → y < length L → place x ≡ place y → x ≡ y
  pub parents_there : (x : ℕ) → x < length L → parents V (place x) ≡ map place (parents L x)
  pub creator_there : (x : ℕ) → x < length L → creator V (place x) ≡ creator L x

-- places that are moved

has_place_moved : (place : ℕ → ℕ) (ps : List ℕ) (p : ℕ) → has_place ps p ≡ true → has_place (map place ps) (place p) ≡ true
has_place_moved place [] p h = absurd (true≢false (sym h))
has_place_moved place (q ∷ ps) p h = elim (or_cases (eqb q p) (has_place ps p) h) [
  | inl first ↦ or_left (eqb (place q) (place p)) (has_place (map place ps) (place p)) (eq-eqb (place q) (place p) (ap place (eqb-true q p first)))
  | inr later ↦ or_right (eqb (place q) (place p)) (has_place (map place ps) (place p)) (has_place_moved place ps p later)
]

has_place_back : (place : ℕ → ℕ) (ps : List ℕ) (u : ℕ) → has_place (map place ps) u ≡ true → (p : ℕ) × (has_place ps p ≡ true) × (place p ≡ u)
has_place_back place [] u h = absurd (true≢false (sym h))
has_place_back place (q ∷ ps) u h = elim (or_cases (eqb (place q) u) (has_place (map place ps) u) h) [
  | inl first ↦ (q, or_left (eqb q q) (has_place ps q) (eq-eqb q q refl), eqb-true (place q) u first)
  | inr later ↦ (let found = has_place_back place ps u later in (found.0, or_right (eqb q found.0) (has_place ps found.0) found.1, found.2))
]

greatest_round-map : (round : ℕ → ℕ) (place : ℕ → ℕ) (ps : List ℕ) → parent_round round (map place ps) ≡ parent_round (λ p. round (place p)) ps
greatest_round-map round place [] = refl
greatest_round-map round place (p ∷ ps) = ap (max (round (place p))) (greatest_round-map round place ps)

list_all-map : (test : ℕ → Bool) (place : ℕ → ℕ) (ps : List ℕ) → list_all test (map place ps) ≡ list_all (λ p. test (place p)) ps
list_all-map test place [] = refl
list_all-map test place (p ∷ ps) = ap (λ b. test (place p) && b) (list_all-map test place ps)

first_place-map : (place : ℕ → ℕ) (ps : List ℕ) → first_place (map place ps) ≡ map place (first_place ps)
first_place-map place [] = refl
first_place-map place (p ∷ ps) = refl

-- reaching along steps that are moved
module _ (near far : ℕ → List ℕ) (e : IsEarlier near) (f : IsEarlier far) (n : ℕ) (place : ℕ → ℕ) (moved : (x : ℕ) → x < n → far (place x) ≡ map place (near x)) where
  reaches_back_to : (k x u : ℕ) → x < k → x < n → reaches far (place x) u ≡ true → (y : ℕ) × (y ≤ x) × (place y ≡ u) × (reaches near x y ≡ true)
  reaches_back_to zero x u low inside r = absurd (omega arith)
  reaches_back_to (suc k) x u low inside r = elim (reaches_cases far f (place x) u r) [
    | inl here ↦ (x, omega arith, here, reaches_self near e x)
    | inr by ↦ (
        let p = has_place_back place (near x) by.0 (subst (λ ps. has_place ps by.0 ≡ true) (moved x inside) by.1) in
        let before = e.earlier x p.0 p.1 in
        let y = reaches_back_to k p.0 u (omega arith) (omega arith) (subst (λ q. reaches far q u ≡ true) (sym p.2) by.2) in
        let le : y.0 ≤ p.0 = y.1 in
        (y.0, omega arith, y.2, reaches_by near e x p.0 y.0 p.1 y.3))
  ]

  -- what is reached from a moved place is a moved place, reached before
  pub reaches_back : (x u : ℕ) → x < n → reaches far (place x) u ≡ true → (y : ℕ) × (y ≤ x) × (place y ≡ u) × (reaches near x y ≡ true)
  reaches_back x u inside r = reaches_back_to (suc x) x u (omega arith) inside r

  reaches_there_to : (k x y : ℕ) → x < k → x < n → reaches near x y ≡ true → reaches far (place x) (place y) ≡ true
  reaches_there_to zero x y low inside r = absurd (omega arith)
  reaches_there_to (suc k) x y low inside r = elim (reaches_cases near e x y r) [
    | inl same ↦ rw same (reaches_self far f (place y))
    | inr by ↦ (
        let before = e.earlier x by.0 by.1 in
        reaches_by far f (place x) (place by.0) (place y)
        (subst (λ ps. has_place ps (place by.0) ≡ true) (sym (moved x inside)) (has_place_moved place (near x) by.0 by.1))
        (reaches_there_to k by.0 y (omega arith) (omega arith) by.2))
  ]

  pub reaches-moved : ((x y : ℕ) → x < n → y < n → place x ≡ place y → x ≡ y) → (x y : ℕ) → x < n → y < n → reaches far (place x) (place y) ≡ reaches near x y
  reaches-moved apart x y hx hy = bool_iff (reaches far (place x) (place y)) (reaches near x y)
      (λ r. let z = reaches_back x (place y) hx r in
      let le : z.0 ≤ x = z.1 in
      subst (λ k. reaches near x k ≡ true) (apart z.0 y (omega arith) hy z.2) z.3)
      (reaches_there_to (suc x) x y (omega arith) hx)

module _ (n : Stakes) (L V : List Link) (l : IsEarlier (parents L)) (v : IsEarlier (parents V)) (place : ℕ → ℕ) (moved : IsMoved L V place) where
  pub self_parent_there : (x : ℕ) → x < length L → self_parent V (place x) ≡ map place (self_parent L x)
  unfolding self_parent
  self_parent_there x inside = ap first_place (moved.parents_there x inside) ∙ first_place-map place (parents L x)

  pub is_ancestor-moved : (x y : ℕ) → x < length L → y < length L → is_ancestor V (place x) (place y) ≡ is_ancestor L x y
  unfolding is_ancestor
  is_ancestor-moved = reaches-moved (parents L) (parents V) l v (length L) place moved.parents_there moved.apart

  pub is_ancestor_back : (x u : ℕ) → x < length L → is_ancestor V (place x) u ≡ true → (y : ℕ) × (y ≤ x) × (place y ≡ u) × (is_ancestor L x y ≡ true)
  unfolding is_ancestor
  is_ancestor_back = reaches_back (parents L) (parents V) l v (length L) place moved.parents_there

  pub is_self_ancestor-moved : (x y : ℕ) → x < length L → y < length L → is_self_ancestor V (place x) (place y) ≡ is_self_ancestor L x y
  unfolding is_self_ancestor
  is_self_ancestor-moved = reaches-moved (self_parent L) (self_parent V) (self_parent_earlier L l) (self_parent_earlier V v) (length L) place self_parent_there moved.apart

  is_fork-moved : (m a b : ℕ) → a < length L → b < length L → is_fork V m (place a) (place b) ≡ is_fork L m a b
  unfolding is_fork
  is_fork-moved m a b ha hb = rw (moved.creator_there a ha, moved.creator_there b hb, is_self_ancestor-moved a b ha hb, is_self_ancestor-moved b a hb ha) refl

  -- some ancestor there passes a test just where one here passes the like test
  some_ancestor-moved : (x : ℕ) (far near : ℕ → Bool) → x < length L → ((y : ℕ) → y < length L → far (place y) ≡ near y) → some_ancestor V (place x) far ≡ some_ancestor L x near
  some_ancestor-moved x far near inside same = bool_iff (some_ancestor V (place x) far) (some_ancestor L x near)
      (λ e. let u = some_below_found (suc (place x)) (λ u. is_ancestor V (place x) u && far u) e in
      let parts = and_parts (is_ancestor V (place x) u.0) (far u.0) u.2 in
      let y = is_ancestor_back x u.0 inside parts.0 in
      let le : y.0 ≤ x = y.1 in
      some_below_from (suc x) (λ y. is_ancestor L x y && near y) y.0 (omega arith)
      (and_from (is_ancestor L x y.0) (near y.0) y.3 (sym (same y.0 (omega arith)) ∙ subst (λ k. far k ≡ true) (sym y.2) parts.1)))
      (λ e. let y = some_below_found (suc x) (λ y. is_ancestor L x y && near y) e in
      let below : y.0 < suc x = y.1 in
      let parts = and_parts (is_ancestor L x y.0) (near y.0) y.2 in
      let up = is_ancestor-moved x y.0 inside (omega arith) ∙ parts.0 in
      let le = is_ancestor-le V v (place x) (place y.0) up in
      some_below_from (suc (place x)) (λ u. is_ancestor V (place x) u && far u) (place y.0) (omega arith)
      (and_from (is_ancestor V (place x) (place y.0)) (far (place y.0)) up (same y.0 (omega arith) ∙ parts.1)))

  has_fork_below-moved : (x m : ℕ) → x < length L → has_fork_below V (place x) m ≡ has_fork_below L x m
  unfolding has_fork_below
  has_fork_below-moved x m inside =
      some_ancestor-moved x (λ a. some_ancestor V (place x) (is_fork V m a)) (λ a. some_ancestor L x (is_fork L m a)) inside
      (λ a ha. some_ancestor-moved x (is_fork V m (place a)) (is_fork L m a) inside (λ b hb. is_fork-moved m a b ha hb))

  pub sees-moved : (x y : ℕ) → x < length L → y < length L → sees V (place x) (place y) ≡ sees L x y
  unfolding sees
  sees-moved x y hx hy = rw (is_ancestor-moved x y hx hy, moved.creator_there y hy, has_fork_below-moved x (creator L y) hx) refl

  sees_through-moved : (x y m : ℕ) → x < length L → y < length L → sees_through V (place x) (place y) m ≡ sees_through L x y m
  unfolding sees_through
  sees_through-moved x y m hx hy =
      some_ancestor-moved x (λ z. eqb (creator V z) m && sees V z (place y)) (λ z. eqb (creator L z) m && sees L z y) hx
      (λ z hz. rw (moved.creator_there z hz, sees-moved z y hz hy) refl)

  pub strongly_sees-moved : (x y : ℕ) → x < length L → y < length L → strongly_sees n V (place x) (place y) ≡ strongly_sees n L x y
  unfolding strongly_sees
  strongly_sees-moved x y hx hy =
      ap (is_supermajority (total n)) (weight_below-same (stake_of n) (member_count n) (sees_through V (place x) (place y)) (sees_through L x y) (λ m hm. sees_through-moved x y m hx hy))

  greatest_round-moved : (far near : ℕ → ℕ) (x : ℕ) → x < length L → ((p : ℕ) → p < x → far (place p) ≡ near p) →
      parent_round far (parents V (place x)) ≡ parent_round near (parents L x)
  greatest_round-moved far near x inside same =
      ap (parent_round far) (moved.parents_there x inside)
      ∙ (greatest_round-map far place (parents L x) ∙ greatest_round-same (λ p. far (place p)) near (parents L x) (λ p h. same p (l.earlier x p h)))

  -- a test of the self-parent that is moved
  pub self_parent_test-moved : (far near : ℕ → Bool) (x : ℕ) → x < length L → ((p : ℕ) → p < x → far (place p) ≡ near p) →
      list_all far (self_parent V (place x)) ≡ list_all near (self_parent L x)
  self_parent_test-moved far near x inside same =
      ap (list_all far) (self_parent_there x inside)
      ∙ (list_all-map far place (self_parent L x)
      ∙ list_all-same (λ p. far (place p)) near (self_parent L x) (λ p h. same p ((self_parent_earlier L l).earlier x p h)))

  is_witness_by-moved : (far near : ℕ → ℕ) (x : ℕ) → x < length L → ((p : ℕ) → p ≤ x → far (place p) ≡ near p) → is_witness_by far V (place x) ≡ is_witness_by near L x
  is_witness_by-moved far near x inside same =
      self_parent_test-moved (λ p. ltb (far p) (far (place x))) (λ p. ltb (near p) (near x)) x inside (λ p low. rw (same p (omega arith), same x (omega arith)) refl)

  -- the weight of the seen witnesses that pass a test, each weighing what its creator does
  seen-moved : (stake : ℕ → ℕ) (far near : ℕ → ℕ) (r x : ℕ) (far_test near_test : ℕ → Bool) → x < length L → ((p : ℕ) → p < x → far (place p) ≡ near p) → ((p : ℕ) → p < x → far_test (place p) ≡ near_test p) →
      weight_below (λ u. stake (creator V u)) (place x) (λ u. is_seen_witness far n V r (place x) u && far_test u) ≡ weight_below (λ y. stake (creator L y)) x (λ y. is_seen_witness near n L r x y && near_test y)
  seen-moved stake far near r x far_test near_test inside same same_test =
      let far_stake : ℕ → ℕ = λ u. stake (creator V u) in
      let near_stake : ℕ → ℕ = λ y. stake (creator L y) in
      let far_seen = λ (u : ℕ). is_seen_witness far n V r (place x) u && far_test u in
      let near_seen = λ (y : ℕ). is_seen_witness near n L r x y && near_test y in
      let at : (y : ℕ) → y < x → far_seen (place y) ≡ near_seen y = λ y low.
      rw (is_witness_by-moved far near y (omega arith) (λ p le. same p (omega arith)), same y low, strongly_sees-moved x y inside (omega arith), same_test y low) refl in
      let weighs : (y : ℕ) → y < x → far_stake (place y) ≡ near_stake y = λ y low. ap stake (moved.creator_there y (omega arith)) in
      let no_more : weight_below far_stake (place x) far_seen ≤ weight_below near_stake x near_seen =
      weight_below-matched far_stake near_stake (λ u. u) place (place x) x far_seen near_seen (λ a b ha hb e. e)
      (λ u low e.
      let seen = (and_parts (is_seen_witness far n V r (place x) u) (far_test u) e).0 in
      let strong = (and_parts (is_witness_by far V u && eqb (far u) r) (strongly_sees n V (place x) u) seen).1 in
      let y = is_ancestor_back x u inside (strongly_sees-is_ancestor V v n (place x) u strong) in
      let le : y.0 ≤ x = y.1 in
      let other : y.0 ≢ x = λ k. let itself : u ≡ place x = sym y.2 ∙ ap place k in absurd (omega arith) in
      let below : y.0 < x = omega arith in
      let weight : far_stake u ≡ near_stake y.0 = ap far_stake (sym y.2) ∙ weighs y.0 below in
      (y.0, below, sym (at y.0 below) ∙ subst (λ k. far_seen k ≡ true) (sym y.2) e, y.2, omega arith)) in
      let no_less : weight_below near_stake x near_seen ≤ weight_below far_stake (place x) far_seen =
      weight_below-matched near_stake far_stake place (λ u. u) x (place x) near_seen far_seen (λ a b ha hb e. moved.apart a b (omega arith) (omega arith) e)
      (λ y low e.
      let seen = (and_parts (is_seen_witness near n L r x y) (near_test y) e).0 in
      let strong = (and_parts (is_witness_by near L y && eqb (near y) r) (strongly_sees n L x y) seen).1 in
      let up = strongly_sees-is_ancestor V v n (place x) (place y) (strongly_sees-moved x y inside (omega arith) ∙ strong) in
      let le = is_ancestor-le V v (place x) (place y) up in
      let other : place y ≢ place x = λ k. let itself = moved.apart y x (omega arith) inside k in absurd (omega arith) in
      let weight = weighs y low in
      (place y, omega arith, at y low ∙ e, refl, omega arith)) in
      omega arith

  seen_weight-moved : (far near : ℕ → ℕ) (r x : ℕ) → x < length L → ((p : ℕ) → p < x → far (place p) ≡ near p) →
      weight_of n V (place x) (is_seen_witness far n V r (place x)) ≡ weight_of n L x (is_seen_witness near n L r x)
  seen_weight-moved far near r x inside same =
      let always : ℕ → Bool = λ _. true in
      weight_below-same (stake_at n V) (place x) (is_seen_witness far n V r (place x)) (λ u. is_seen_witness far n V r (place x) u && true) (λ u low. sym (and-true (is_seen_witness far n V r (place x) u)))
      ∙ (seen-moved (stake_of n) far near r x always always inside same (λ p low. refl)
      ∙ weight_below-same (stake_at n L) x (λ y. is_seen_witness near n L r x y && true) (is_seen_witness near n L r x) (λ y low. and-true (is_seen_witness near n L r x y)))

  round_of-moved_to : (k x : ℕ) → x < k → x < length L → round_of n V (place x) ≡ round_of n L x
  round_of-moved_to zero x low inside = absurd (omega arith)
  round_of-moved_to (suc k) x low inside =
      let before = λ (p : ℕ) (h : p < x). round_of-moved_to k p (omega arith) (omega arith) in
      let r = parent_round (round_of n L) (parents L x) in
      let weight = weight_of n L x (is_seen_witness (round_of n L) n L r x) in
      round_of-at n V v (place x)
      ∙ (rw (greatest_round-moved (round_of n V) (round_of n L) x inside before, seen_weight-moved (round_of n V) (round_of n L) r x inside before) refl
      ∙ sym (round_of-at n L l x))

  pub round_of-moved : (x : ℕ) → x < length L → round_of n V (place x) ≡ round_of n L x
  round_of-moved x inside = round_of-moved_to (suc x) x (omega arith) inside

  pub is_witness-moved : (x : ℕ) → x < length L → is_witness n V (place x) ≡ is_witness n L x
  unfolding is_witness
  is_witness-moved x inside = is_witness_by-moved (round_of n V) (round_of n L) x inside (λ p le. round_of-moved p (omega arith))

  -- the weight of the voters that pass a test
  voters-moved : (x : ℕ) (far_test near_test : ℕ → Bool) → x < length L → ((p : ℕ) → p < x → far_test (place p) ≡ near_test p) →
      weight_of n V (place x) (λ u. is_voter n V (place x) u && far_test u) ≡ weight_of n L x (λ y. is_voter n L x y && near_test y)
  voters-moved x far_test near_test inside same =
      rw (round_of-moved x inside) (seen-moved (stake_of n) (round_of n V) (round_of n L) (round_of n L x - 1) x far_test near_test inside (λ p low. round_of-moved p (omega arith)) same)

  module _ (c : ℕ) (far_coin near_coin : ℕ → Bool) (coins : (x : ℕ) → x < length L → far_coin (place x) ≡ near_coin x) where
    vote_of-moved_to : (x k y : ℕ) → x < length L → y < k → y < length L → vote_of n c V far_coin (place x) (place y) ≡ vote_of n c L near_coin x y
    vote_of-moved_to x zero y hx low hy = absurd (omega arith)
    vote_of-moved_to x (suc k) y hx low hy =
        let before = λ (p : ℕ) (h : p < y). vote_of-moved_to x k p hx (omega arith) (omega arith) in
        let ayes = voters-moved y (vote_of n c V far_coin (place x)) (vote_of n c L near_coin x) hy before in
        let nays = voters-moved y (λ u. not (vote_of n c V far_coin (place x) u)) (λ u. not (vote_of n c L near_coin x u)) hy (λ p h. ap not (before p h)) in
        vote_of-at n c V far_coin (place x) (place y)
        ∙ (rw (ayes, nays, round_of-moved y hy, round_of-moved x hx, sees-moved y x hy hx, coins y hy) refl
        ∙ sym (vote_of-at n c L near_coin x y))

    pub vote_of-moved : (x y : ℕ) → x < length L → y < length L → vote_of n c V far_coin (place x) (place y) ≡ vote_of n c L near_coin x y
    vote_of-moved x y hx hy = vote_of-moved_to x (suc y) y hx (omega arith) hy

    pub decides-moved : (x y : ℕ) → x < length L → y < length L → decides n c V far_coin (place x) (place y) ≡ decides n c L near_coin x y
    unfolding decides
    decides-moved x y hx hy =
        let before = λ (p : ℕ) (h : p < y). vote_of-moved x p hx (omega arith) in
        let ayes = voters-moved y (vote_of n c V far_coin (place x)) (vote_of n c L near_coin x) hy before in
        let nays = voters-moved y (λ u. not (vote_of n c V far_coin (place x) u)) (λ u. not (vote_of n c L near_coin x u)) hy (λ p h. ap not (before p h)) in
        rw (is_witness-moved y hy, ayes, nays, round_of-moved y hy, round_of-moved x hx) refl
