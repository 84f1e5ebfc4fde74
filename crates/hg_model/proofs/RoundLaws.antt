-- The laws of rounds
use Rattle.std.proofs.Common.{◌≡◌, ℕ, zero, suc, ◌+◌, ◌*◌, ◌<◌, ◌≤◌, Bool, true, false, cond, eqb, ltb, List, [], ◌∷◌, sym, refl, ap, ◌∙◌, inl, inr, ◌⊎◌, arith}
use Rattle.std.proofs.lemmas.Bool.{cases_lt, cases_eq, or_cases, true≢false, cases_Bool, eqb-true, ltb-true}
use Rattle.std.specs.List.{list_all}
use Rattle.hg_model.specs.Places.{by_place, has_place, IsEarlier}
use Rattle.hg_model.specs.Stakes.{Stakes, total}
use Rattle.hg_model.specs.Links.{Link, parents, self_parent}
use Rattle.hg_model.specs.Seeing.{is_supermajority}
use Rattle.hg_model.specs.Rounds.{parent_round, is_witness_by, is_seen_witness, round_from, round_of, stake_at, weight_of}
use Rattle.hg_model.proofs.PlacesLaws.{only_below, only_below-at, by_place-at, weight_below-same, weight_below_none}
use Rattle.hg_model.proofs.ReachLaws.{has_place_first, has_place_later}
use Rattle.hg_model.proofs.AncestryLaws.{self_parent_earlier}

-- the greatest round of some places

pub greatest_round-same : (one two : ℕ → ℕ) (ps : List ℕ) → ((p : ℕ) → has_place ps p ≡ true → one p ≡ two p) → parent_round one ps ≡ parent_round two ps
greatest_round-same one two [] same = refl
greatest_round-same one two (p ∷ ps) same =
    let first = same p (has_place_first p ps) in
    let rest = greatest_round-same one two ps (λ q h. same q (has_place_later p q ps h)) in
    cc

pub greatest_round_bounds : (round : ℕ → ℕ) (ps : List ℕ) (p : ℕ) → has_place ps p ≡ true → round p ≤ parent_round round ps
greatest_round_bounds round [] p h = absurd (true≢false (sym h))
greatest_round_bounds round (q ∷ ps) p h = elim (or_cases (eqb q p) (has_place ps p) h) [
  | inl first ↦ (let e : round q ≡ round p = ap round (eqb-true q p first) in omega arith)
  | inr rest ↦ omega (arith, greatest_round_bounds round ps p rest)
]

pub greatest_round_found : (round : ℕ → ℕ) (ps : List ℕ) → (parent_round round ps ≡ 1) ⊎ ((p : ℕ) × (has_place ps p ≡ true) × (round p ≡ parent_round round ps))
greatest_round_found round [] = inl refl
greatest_round_found round (q ∷ ps) = elim (cases_lt (round q) (parent_round round ps)) [
  | inl lower ↦ elim (greatest_round_found round ps) [
    | inl one ↦ inl (omega arith)
    | inr found ↦ inr (found.0, has_place_later q found.0 ps found.1, omega (arith, found.2))
  ]
  | inr greatest ↦ inr (q, has_place_first q ps, omega arith)
]

pub greatest_round-pos : (round : ℕ → ℕ) (ps : List ℕ) → 0 < parent_round round ps
greatest_round-pos round [] = omega arith
greatest_round-pos round (q ∷ ps) = omega (arith, greatest_round-pos round ps)

pub list_all-same : (one two : ℕ → Bool) (ps : List ℕ) → ((p : ℕ) → has_place ps p ≡ true → one p ≡ two p) → list_all one ps ≡ list_all two ps
list_all-same one two [] same = refl
list_all-same one two (p ∷ ps) same =
    let first = same p (has_place_first p ps) in
    let rest = list_all-same one two ps (λ q h. same q (has_place_later p q ps h)) in
    cc

module _ (n : Stakes) (L : List Link) (e : IsEarlier (parents L)) where
  pub is_witness_by-same : (one two : ℕ → ℕ) (x : ℕ) → ((p : ℕ) → p ≤ x → one p ≡ two p) → is_witness_by one L x ≡ is_witness_by two L x
  is_witness_by-same one two x same = list_all-same (λ p. ltb (one p) (one x)) (λ p. ltb (two p) (two x)) (self_parent L x) (λ p h.
      let low : p < x = (self_parent_earlier L e).earlier x p h in
      let at_p = same p (omega arith) in
      let at_x = same x (omega arith) in
      cc)

  pub is_seen_witness-same : (one two : ℕ → ℕ) (r x y : ℕ) → ((p : ℕ) → p ≤ y → one p ≡ two p) → is_seen_witness one n L r x y ≡ is_seen_witness two n L r x y
  is_seen_witness-same one two r x y same = rw (is_witness_by-same one two y same, same y (omega arith)) refl

  -- the next round depends on the rounds of earlier events alone
  pub round_from-same : (one two : ℕ → ℕ) (x : ℕ) → ((p : ℕ) → p < x → one p ≡ two p) → round_from n L one x ≡ round_from n L two x
  round_from-same one two x same =
      rw (greatest_round-same one two (parents L x) (λ p h. same p (e.earlier x p h)))
      (ap (λ count. cond (is_supermajority (total n) count) (parent_round two (parents L x) + 1) (parent_round two (parents L x)))
      (weight_below-same (stake_at n L) x (is_seen_witness one n L (parent_round two (parents L x)) x) (is_seen_witness two n L (parent_round two (parents L x)) x)
      (λ y hy. is_seen_witness-same one two (parent_round two (parents L x)) x y (λ p hp. same p (omega arith)))))

  -- the equation of rounds
  pub round_of-at : (x : ℕ) → round_of n L x ≡ round_from n L (round_of n L) x
  unfolding round_of
  round_of-at x =
      by_place-at 0 (round_from n L) x
      ∙ round_from-same (only_below 0 x (by_place 0 (round_from n L))) (by_place 0 (round_from n L)) x (λ p h. only_below-at 0 x (by_place 0 (round_from n L)) p h)

  -- the round is the greatest of the parents', or one more
  pub round_of_cases : (x : ℕ) → let r = parent_round (round_of n L) (parents L x) in
      ((is_supermajority (total n) (weight_of n L x (is_seen_witness (round_of n L) n L r x)) ≡ true) × (round_of n L x ≡ r + 1))
      ⊎ ((is_supermajority (total n) (weight_of n L x (is_seen_witness (round_of n L) n L r x)) ≡ false) × (round_of n L x ≡ r))
  round_of_cases x =
      let r = parent_round (round_of n L) (parents L x) in
      elim (cases_Bool (is_supermajority (total n) (weight_of n L x (is_seen_witness (round_of n L) n L r x)))) [
        | inl up ↦ inl (up, round_of-at x ∙ ap (λ b. cond b (r + 1) r) up)
        | inr stay ↦ inr (stay, round_of-at x ∙ ap (λ b. cond b (r + 1) r) stay)
      ]

  pub round_of-parent-le : (x p : ℕ) → has_place (parents L x) p ≡ true → round_of n L p ≤ round_of n L x
  round_of-parent-le x p h =
      let le = greatest_round_bounds (round_of n L) (parents L x) p h in
      elim (round_of_cases x) [ inl up ↦ omega (arith, le, up.1) | inr stay ↦ omega (arith, le, stay.1) ]

  pub round_of-pos : (x : ℕ) → 0 < round_of n L x
  round_of-pos x =
      let pos = greatest_round-pos (round_of n L) (parents L x) in
      elim (round_of_cases x) [ inl up ↦ omega (arith, pos, up.1) | inr stay ↦ omega (arith, pos, stay.1) ]

  round_of-le_to : (k x : ℕ) → x < k → round_of n L x ≤ x + 1
  round_of-le_to zero x h = absurd (omega arith)
  round_of-le_to (suc k) x h = elim (greatest_round_found (round_of n L) (parents L x)) [
    | inl one ↦ elim (cases_eq x 0) [
      | inl first ↦ elim (round_of_cases x) [
        | inl up ↦ absurd (let count = weight_of n L x (is_seen_witness (round_of n L) n L (parent_round (round_of n L) (parents L x)) x) in
            let many : 2 * total n < 3 * count = ltb-true (2 * total n) (3 * count) up.0 in
            let none : count ≡ 0 = weight_below_none (stake_at n L) x (is_seen_witness (round_of n L) n L (parent_round (round_of n L) (parents L x)) x) (λ w hw t. absurd (omega arith)) in
            omega arith)
        | inr stay ↦ omega (arith, stay.1, one)
      ]
      | inr later ↦ elim (round_of_cases x) [ inl up ↦ omega (arith, up.1, one) | inr stay ↦ omega (arith, stay.1, one) ]
    ]
    | inr found ↦
        (let low : found.0 < x = e.earlier x found.0 found.1 in
        let le : round_of n L found.0 ≤ found.0 + 1 = round_of-le_to k found.0 (omega arith) in
        elim (round_of_cases x) [ inl up ↦ omega (arith, up.1, found.2) | inr stay ↦ omega (arith, stay.1, found.2) ])
  ]

  -- no round is above the number of events so far
  pub round_of-le : (x : ℕ) → round_of n L x ≤ x + 1
  round_of-le x = round_of-le_to (suc x) x (omega arith)
