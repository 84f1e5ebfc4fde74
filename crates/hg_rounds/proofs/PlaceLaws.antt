-- The round of the last row, from the standings of the rows before it
use Rattle.std.proofs.Common.{◌≡◌, ℕ, ◌+◌, ◌-◌, ◌<◌, ◌≤◌, Bool, cond, ◌&&◌, eqb, ltb, ◌⊎◌, inl, inr, List, [], ◌∷◌, ◌++◌, length, get_or, take, max, refl, sym, ap, ◌∙◌, subst, arith}
use Rattle.std.specs.List.{list_all, AllByRecursion}
use Rattle.std.proofs.lemmas.Bool.{cases_eq}
use Rattle.std.proofs.lemmas.List.{length-take-le, take_more}
use Rattle.hg_model.specs.Places.{list_below}
use Rattle.hg_model.specs.Stakes.{Stakes, total}
use Rattle.hg_model.specs.Links.{Link, first_place, parents, self_parent}
use Rattle.hg_model.specs.Seeing.{is_supermajority, strongly_sees}
use Rattle.hg_model.specs.Rounds.{parent_round, is_seen_witness, round_of, is_witness, stake_at, weight_of}
use Rattle.hg_model.specs.Among.{weight_among}
use Rattle.hg_model.specs.Graph.{IsShaped}
use Rattle.hg_model.specs.Standings.{Standing, standings_of, round_at, witnesses_in, greatest_in}
use Rattle.hg_model.proofs.PlacesLaws.{list_below-same, maximum_below_bounds}
use Rattle.hg_model.proofs.ListLaws.{all_list_below}
use Rattle.hg_model.proofs.StakeLaws.{weight_among-list_below}
use Rattle.hg_model.proofs.LinkLaws.{parents_below}
use Rattle.hg_model.proofs.RoundLaws.{greatest_round-same, greatest_round_found, list_all-same, round_of-at, round_of_cases, round_of-pos, round_of-le}
use Rattle.hg_model.proofs.ShapeLaws.{shaped-take}
use Rattle.hg_model.proofs.LongerLaws.{longer-take, round_of-longer, is_witness-longer}
use Rattle.hg_model.proofs.StandingLaws.{length-standings, round_at-standings, witnesses_in-standings}
use Rattle.hg_rounds.specs.Tabled.{standing}
use Rattle.hg_rounds.proofs.ByRowLaws.{standings_last}

-- the greatest of the rounds, one place more

parent_round-push : (round : ℕ → ℕ) (ps : List ℕ) (p : ℕ) → parent_round round (ps ++ p ∷ []) ≡ max (round p) (parent_round round ps)
parent_round-push round [] p = refl
parent_round-push round (q ∷ ps) p = omega (arith, parent_round-push round ps p)

pub parent_round_none : (round : ℕ → ℕ) (ps : List ℕ) → parent_round round (take 0 ps) ≡ 1
parent_round_none round [] = refl
parent_round_none round (p ∷ ps) = refl

pub parent_round_more : (round : ℕ → ℕ) (ps : List ℕ) (i : ℕ) → i < length ps →
    parent_round round (take (i + 1) ps) ≡ max (round (get_or ps i 0)) (parent_round round (take i ps))
parent_round_more round ps i inside = ap (parent_round round) (take_more ps i 0 inside) ∙ parent_round-push round (take i ps) (get_or ps i 0)

pub ruleset parent_round_steps = (parent_round_none, parent_round_more)

module _ (n : Stakes) (L : List Link) (shaped : IsShaped n L) (some : 0 < length L) (S : List Standing) (is : S ≡ standings_of n (take (length L - 1) L)) where
  abbrev pub last : ℕ
  last = length L - 1

  long : length L ≡ last + 1
  long = omega arith

  first_long : length (take last L) ≡ last
  first_long = length-take-le last L (omega arith)

  -- the table has the rows before the last
  pub table_long : length S ≡ last
  table_long = ap (λ (s : List Standing). length s) is ∙ (length-standings n (take last L) ∙ first_long)

  pub round_known : (p : ℕ) → p < last → round_at S p ≡ round_of n L p
  round_known p h =
      ap (λ s. round_at s p) is
      ∙ (round_at-standings n (take last L) p (omega (arith, first_long))
      ∙ sym (round_of-longer (take last L) L (longer-take L last (omega arith)) n p (omega (arith, first_long))))

  pub parents_known : AllByRecursion (λ p. p < length S) (parents L last)
  parents_known = subst (λ k. AllByRecursion (λ p. p < k) (parents L last)) (sym table_long) (parents_below L last shaped.earlier)

  pub greatest_known : parent_round (round_at S) (parents L last) ≡ parent_round (round_of n L) (parents L last)
  greatest_known = greatest_round-same (round_at S) (round_of n L) (parents L last) (λ p h. round_known p (shaped.earlier.earlier last p h))

  witnesses_known : (r : ℕ) → witnesses_in S r ≡ list_below (λ x. x) last (λ x. is_witness n L x && eqb (round_of n L x) r)
  witnesses_known r =
      ap (λ s. witnesses_in s r) is
      ∙ (witnesses_in-standings n (take last L) r
      ∙ (ap (λ k. list_below (λ x. x) k (λ x. is_witness n (take last L) x && eqb (round_of n (take last L) x) r)) first_long
      ∙ list_below-same (λ x. x) (λ x. x) last (λ x. is_witness n (take last L) x && eqb (round_of n (take last L) x) r) (λ x. is_witness n L x && eqb (round_of n L x) r)
      (λ x h. rw (
        is_witness-longer (take last L) L (longer-take L last (omega arith)) n (shaped-take n L last (omega arith) shaped).earlier x (omega (arith, first_long)),
        round_of-longer (take last L) L (longer-take L last (omega arith)) n x (omega (arith, first_long)),
      ) refl)
      (λ x h passes. refl)))

  -- all witnesses of the table stand before the last row
  pub witnesses_below : (r : ℕ) → AllByRecursion (λ y. y < last) (witnesses_in S r)
  witnesses_below r = subst (AllByRecursion (λ y. y < last)) (sym (witnesses_known r))
      (all_list_below (λ y. y < last) (λ x. x) last (λ x. is_witness n L x && eqb (round_of n L x) r) (λ k h t. h))

  -- what those weigh that the last row strongly sees
  pub seen_known : (r : ℕ) → weight_among (stake_at n L) (strongly_sees n L last) (witnesses_in S r) ≡ weight_of n L last (is_seen_witness (round_of n L) n L r last)
  unfolding is_witness
  seen_known r =
      ap (weight_among (stake_at n L) (strongly_sees n L last)) (witnesses_known r)
      ∙ weight_among-list_below (stake_at n L) (strongly_sees n L last) last (λ x. is_witness n L x && eqb (round_of n L x) r)

  -- the round of the last row
  pub last_round_known : (r seen : ℕ) (many : Bool) → r ≡ parent_round (round_at S) (parents L last) → seen ≡ weight_among (stake_at n L) (strongly_sees n L last) (witnesses_in S r) →
      many ≡ is_supermajority (total n) seen → cond many (r + 1) r ≡ round_of n L last
  last_round_known r seen many r_is seen_is many_is =
      let r_known : r ≡ parent_round (round_of n L) (parents L last) = r_is ∙ greatest_known in
      let weight : seen ≡ weight_of n L last (is_seen_witness (round_of n L) n L r last) = seen_is ∙ seen_known r in
      sym (round_of-at n L shaped.earlier last ∙ rw (← r_known, ← weight, ← many_is) refl)

  last_round_fits : round_of n L last ≤ last + 1
  last_round_fits = round_of-le n L shaped.earlier last

  pub greatest_fits : parent_round (round_at S) (parents L last) ≤ last + 1
  greatest_fits = rw greatest_known (elim (round_of_cases n L shaped.earlier last) [
    | inl up ↦ omega (arith, last_round_fits, up.1)
    | inr stay ↦ omega (arith, last_round_fits, stay.1)
  ])

  -- whether it is a witness
  pub last_witness_known : (round : ℕ) → round ≡ round_of n L last →
      list_all (λ p. ltb (round_at S p) round) (first_place (parents L last)) ≡ is_witness n L last
  unfolding is_witness self_parent
  last_witness_known round is_round =
      list_all-same (λ p. ltb (round_at S p) round) (λ p. ltb (round_of n L p) (round_of n L last)) (first_place (parents L last)) (λ p h.
      let matches = round_known p (shaped.earlier.earlier last p (Rattle.hg_model.proofs.PushLaws.first_of_places (parents L last) p h)) in
      cc)

  pub first_known : 1 ≤ round_of n L last
  first_known = (let pos = round_of-pos n L shaped.earlier last in omega arith)

  known_round : (p : ℕ) → p < last → round_of n L p ≤ greatest_in S
  unfolding greatest_in
  known_round p h = omega (arith, maximum_below_bounds (round_at S) (length S) p (omega (arith, table_long)), round_known p h)

  -- the last row's round is at most one above the greatest
  pub next_known : round_of n L last ≤ greatest_in S + 1
  next_known = elim (cases_eq last 0) [
    | inl zeroth ↦ (let le = last_round_fits in omega arith)
    | inr later ↦
        (let known = known_round 0 (omega arith) in
        let pos = round_of-pos n L shaped.earlier 0 in
        let step : round_of n L last ≤ parent_round (round_of n L) (parents L last) + 1 = step_to (round_of_cases n L shaped.earlier last) in
        elim (greatest_round_found (round_of n L) (parents L last)) [
          | inl one ↦ omega arith
          | inr found ↦ (let below = known_round found.0 (shaped.earlier.earlier last found.0 found.1) in let same = found.2 in omega arith)
        ])
  ]
    where
      step_to : {A B : Type 0} → (A × (round_of n L last ≡ parent_round (round_of n L) (parents L last) + 1)) ⊎ (B × (round_of n L last ≡ parent_round (round_of n L) (parents L last))) → round_of n L last ≤ parent_round (round_of n L) (parents L last) + 1
      step_to (inl up) = omega (arith, up.1)
      step_to (inr stay) = omega (arith, stay.1)

  -- with it the table has the standings of the whole graph
  pub whole_known : (round : ℕ) (witness : Bool) → round ≡ round_of n L last → witness ≡ is_witness n L last → S ++ standing round witness ∷ [] ≡ standings_of n L
  whole_known round witness is_round is_witness_known =
      rw (is, is_round, is_witness_known) (sym (standings_last n L shaped last long))
