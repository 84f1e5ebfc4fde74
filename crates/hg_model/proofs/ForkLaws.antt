-- The laws of forks
use Rattle.std.proofs.Common.{◌≡◌, ◌≢◌, ℕ, zero, suc, ◌+◌, ◌<◌, ◌≤◌, true, false, not, ◌&&◌, eqb, List, [], ◌∷◌, length, sym, refl, ap, ◌∙◌, subst, inl, inr, ◌⊎◌, arith}
use Rattle.std.proofs.lemmas.Bool.{cases_Bool, cases_eq, and_parts, and_from, eqb-true, eq-eqb, not-true, not_from_false, both_ways, false_from_ne_true}
use Rattle.hg_model.specs.Places.{has_place, some_below, IsEarlier}
use Rattle.hg_model.specs.Links.{Link, parents, self_parent, first_place, creator}
use Rattle.hg_model.specs.Ancestry.{is_ancestor, is_self_ancestor, some_ancestor}
use Rattle.hg_model.specs.Forks.{is_fork, has_fork_below, has_fork}
use Rattle.hg_model.proofs.PlacesLaws.{some_below_from, some_below_found, some_below_none}
use Rattle.hg_model.proofs.ReachLaws.{has_place_first, none_there, one_there}
use Rattle.hg_model.proofs.AncestryLaws.{self_parent_is_parent, is_self_ancestor_self, is_self_ancestor_by, is_self_ancestor_cases, is_self_ancestor-le}

-- what a fork is
pub record Fork (L : List Link) (m a b : ℕ) : Type 0 where
  pub first : creator L a ≡ m
  pub second : creator L b ≡ m
  pub not_above : is_self_ancestor L a b ≡ false
  pub not_below : is_self_ancestor L b a ≡ false

pub fork_is : (L : List Link) (m a b : ℕ) → is_fork L m a b ≡ true → Fork L m a b
unfolding is_fork
fork_is L m a b h =
    let by_a = eqb (creator L a) m in
    let by_b = eqb (creator L b) m in
    let above = not (is_self_ancestor L a b) in
    let one = and_parts (by_a && by_b && above) (not (is_self_ancestor L b a)) h in
    let two = and_parts (by_a && by_b) above one.0 in
    let three = and_parts by_a by_b two.0 in
    record {
      first = eqb-true (creator L a) m three.0;
      second = eqb-true (creator L b) m three.1;
      not_above = not-true (is_self_ancestor L a b) two.1;
      not_below = not-true (is_self_ancestor L b a) one.1;
    }

pub is_fork_from : (L : List Link) (m a b : ℕ) → Fork L m a b → is_fork L m a b ≡ true
unfolding is_fork
is_fork_from L m a b f =
    let by_a = eqb (creator L a) m in
    let by_b = eqb (creator L b) m in
    let above = not (is_self_ancestor L a b) in
    and_from (by_a && by_b && above) (not (is_self_ancestor L b a))
    (and_from (by_a && by_b) above
    (and_from by_a by_b (eq-eqb (creator L a) m f.first) (eq-eqb (creator L b) m f.second))
    (not_from_false (is_self_ancestor L a b) f.not_above))
    (not_from_false (is_self_ancestor L b a) f.not_below)

pub has_fork_from : (L : List Link) (m a b : ℕ) → a < length L → b < length L → is_fork L m a b ≡ true → has_fork L m ≡ true
unfolding has_fork
has_fork_from L m a b ha hb f =
    some_below_from (length L) (λ a. some_below (length L) (λ b. is_fork L m a b)) a ha
    (some_below_from (length L) (λ b. is_fork L m a b) b hb f)

pub has_fork_found : (L : List Link) (m : ℕ) → has_fork L m ≡ true → (a : ℕ) × (b : ℕ) × (a < length L) × (b < length L) × Fork L m a b
unfolding has_fork
has_fork_found L m h =
    let one = some_below_found (length L) (λ a. some_below (length L) (λ b. is_fork L m a b)) h in
    let two = some_below_found (length L) (λ b. is_fork L m one.0 b) one.2 in
    (one.0, two.0, one.1, two.1, fork_is L m one.0 two.0 two.2)

-- a fork below a row is a fork of the graph
pub has_fork_below-has_fork : (L : List Link) (x m : ℕ) → x < length L → has_fork_below L x m ≡ true → has_fork L m ≡ true
unfolding has_fork_below
has_fork_below-has_fork L x m hx h =
    let inner = λ (a : ℕ). some_below (suc x) (λ b. is_ancestor L x b && is_fork L m a b) in
    let one = some_below_found (suc x) (λ a. is_ancestor L x a && inner a) h in
    let a : ℕ = one.0 in
    let a_below : a < suc x = one.1 in
    let two = some_below_found (suc x) (λ b. is_ancestor L x b && is_fork L m a b) (and_parts (is_ancestor L x a) (inner a) one.2).1 in
    let b : ℕ = two.0 in
    let b_below : b < suc x = two.1 in
    has_fork_from L m a b (omega arith) (omega arith) (and_parts (is_ancestor L x b) (is_fork L m a b) two.2).1

-- two rows by one member on the same self-parent, or both without one
pub record Twins (L : List Link) (m a b : ℕ) : Type 0 where
  pub first : creator L a ≡ m
  pub second : creator L b ≡ m
  pub apart : a ≢ b
  pub on_same : self_parent L a ≡ self_parent L b

-- at most one self-parent
one_place : (ps : List ℕ) → (first_place ps ≡ []) ⊎ ((p : ℕ) × (first_place ps ≡ p ∷ []))
one_place [] = inl refl
one_place (p ∷ ps) = inr (p, refl)

pub self_parent_cases : (L : List Link) (x : ℕ) → (self_parent L x ≡ []) ⊎ ((p : ℕ) × (self_parent L x ≡ p ∷ []))
unfolding self_parent
self_parent_cases L x = one_place (parents L x)

pub self_parent_only : (L : List Link) (x p : ℕ) → has_place (self_parent L x) p ≡ true → self_parent L x ≡ p ∷ []
self_parent_only L x p h = elim (self_parent_cases L x) [
  | inl none ↦ absurd (none_there p (subst (λ ps. has_place ps p ≡ true) none h))
  | inr one ↦ (let same : one.0 ≡ p = one_there one.0 p (subst (λ ps. has_place ps p ≡ true) one.1 h) in
      one.1 ∙ ap (λ (q : ℕ). q ∷ []) same)
]

pub self_parent_one : (L : List Link) (x p q : ℕ) → has_place (self_parent L x) p ≡ true → has_place (self_parent L x) q ≡ true → p ≡ q
self_parent_one L x p q on_p on_q = one_there p q (subst (λ ps. has_place ps q ≡ true) (self_parent_only L x p on_p) on_q)

module _ (L : List Link) (e : IsEarlier (parents L)) where
  one_line_to : (k t a b : ℕ) → t < k → is_self_ancestor L t a ≡ true → is_self_ancestor L t b ≡ true →
      (is_self_ancestor L a b ≡ true) ⊎ (is_self_ancestor L b a ≡ true)
  one_line_to zero t a b h up_a up_b = absurd (omega arith)
  one_line_to (suc k) t a b h up_a up_b = elim (is_self_ancestor_cases L e t a up_a) [
    | inl same ↦ inl (subst (λ x. is_self_ancestor L x b ≡ true) same up_b)
    | inr by_a ↦ elim (is_self_ancestor_cases L e t b up_b) [
      | inl same ↦ inr (subst (λ x. is_self_ancestor L x a ≡ true) same up_a)
      | inr by_b ↦
          (let one = self_parent_one L t by_b.0 by_a.0 by_b.1 by_a.1 in
          let before : by_a.0 < t = e.earlier t by_a.0 (self_parent_is_parent L t by_a.0 by_a.1) in
          one_line_to k by_a.0 a b (omega arith) by_a.2 (subst (λ x. is_self_ancestor L x b ≡ true) one by_b.2))
    ]
  ]

  -- of two self-ancestors of one row, one is a self-ancestor of the other
  pub one_line : (t a b : ℕ) → is_self_ancestor L t a ≡ true → is_self_ancestor L t b ≡ true →
      (is_self_ancestor L a b ≡ true) ⊎ (is_self_ancestor L b a ≡ true)
  one_line t a b up_a up_b = one_line_to (suc t) t a b (omega arith) up_a up_b

module _ (L : List Link) (e : IsEarlier (parents L)) (own : (x p : ℕ) → has_place (self_parent L x) p ≡ true → creator L p ≡ creator L x) where
  self_parent_before : (x p : ℕ) → has_place (self_parent L x) p ≡ true → p < x
  self_parent_before x p h = e.earlier x p (self_parent_is_parent L x p h)

  -- of twins neither is above the other
  twins_apart : (a b : ℕ) → a ≢ b → self_parent L a ≡ self_parent L b → is_self_ancestor L a b ≡ false
  twins_apart a b apart on_same = false_from_ne_true (is_self_ancestor L a b) (λ above.
      elim (is_self_ancestor_cases L e a b above) [
        | inl same ↦ apart same
        | inr by ↦
            (let le : b ≤ by.0 = is_self_ancestor-le L e by.0 b by.2 in
            let before : by.0 < b = self_parent_before b by.0 (subst (λ ps. has_place ps by.0 ≡ true) on_same by.1) in
            absurd (omega arith))
      ])

  pub fork_of_twins : (m a b : ℕ) → Twins L m a b → Fork L m a b
  fork_of_twins m a b t = record {
    first = t.first;
    second = t.second;
    not_above = twins_apart a b t.apart t.on_same;
    not_below = twins_apart b a (λ same. t.apart (sym same)) (sym t.on_same);
  }

  -- on the line from b down to p, the row right above p
  child_to : (k b p : ℕ) → b < k → is_self_ancestor L b p ≡ true → b ≢ p → (c : ℕ) × (is_self_ancestor L b c ≡ true) × (has_place (self_parent L c) p ≡ true)
  child_to zero b p h r apart = absurd (omega arith)
  child_to (suc k) b p h r apart = elim (is_self_ancestor_cases L e b p r) [
    | inl same ↦ absurd (apart same)
    | inr by ↦ elim (cases_eq by.0 p) [
      | inl same ↦ (b, is_self_ancestor_self L e b, subst (λ q. has_place (self_parent L b) q ≡ true) same by.1)
      | inr other ↦
          (let before : by.0 < b = self_parent_before b by.0 by.1 in
          let c = child_to k by.0 p (omega arith) by.2 other in
          (c.0, is_self_ancestor_by L e b by.0 c.0 by.1 c.1, c.2))
    ]
  ]

  -- a fork where the first has a self-parent: twins, or a fork of the self-parent
  fork_step : (m a b p : ℕ) → self_parent L a ≡ p ∷ [] → Fork L m a b →
      ((c : ℕ) × (c ≤ b) × Twins L m a c) ⊎ Fork L m p b
  fork_step m a b p on f =
      let has : has_place (self_parent L a) p ≡ true = rw on (has_place_first p []) in
      let by_m : creator L p ≡ m = own a p has ∙ f.first in
      elim (cases_Bool (is_self_ancestor L b p)) [
        | inl reached ↦
            (let apart : b ≢ p = λ same. both_ways (is_self_ancestor L a b) f.not_above (is_self_ancestor_by L e a p b has (subst (λ q. is_self_ancestor L p q ≡ true) (sym same) (is_self_ancestor_self L e p))) in
            let c = child_to (suc b) b p (omega arith) reached apart in
            let on_c : self_parent L c.0 ≡ p ∷ [] = self_parent_only L c.0 p c.2 in
            let le : c.0 ≤ b = is_self_ancestor-le L e b c.0 c.1 in
            let by_c : creator L c.0 ≡ m = sym (own c.0 p c.2) ∙ by_m in
            inl (
              c.0,
              le,
              record {
                first = f.first;
                second = by_c;
                apart = λ same. both_ways (is_self_ancestor L b a) f.not_below (subst (λ q. is_self_ancestor L b q ≡ true) (sym same) c.1);
                on_same = on ∙ sym on_c;
              },
            ))
        | inr apart ↦ inr (record {
          first = by_m;
          second = f.second;
          not_above = false_from_ne_true (is_self_ancestor L p b) (λ r. both_ways (is_self_ancestor L a b) f.not_above (is_self_ancestor_by L e a p b has r));
          not_below = apart;
        })
      ]

  fork_swapped : (m a b : ℕ) → Fork L m a b → Fork L m b a
  fork_swapped m a b f = record { first = f.second; second = f.first; not_above = f.not_below; not_below = f.not_above }

  -- where there is a fork, there are twins no later
  twins_to : (k n m a b : ℕ) → a + b < k → a < n → b < n → Fork L m a b → (c : ℕ) × (d : ℕ) × (c < n) × (d < n) × Twins L m c d
  twins_to zero n m a b h ha hb f = absurd (omega arith)
  twins_to (suc k) n m a b h ha hb f = elim (self_parent_cases L a) [
    | inr on ↦
        (let before : on.0 < a = self_parent_before a on.0 (rw on.1 (has_place_first on.0 [])) in
        elim (fork_step m a b on.0 on.1 f) [
          | inl t ↦ (let le : t.0 ≤ b = t.1 in (a, t.0, ha, omega arith, t.2))
          | inr lower ↦ twins_to k n m on.0 b (omega arith) (omega arith) hb lower
        ])
    | inl none ↦ elim (self_parent_cases L b) [
      | inr on ↦
          (let before : on.0 < b = self_parent_before b on.0 (rw on.1 (has_place_first on.0 [])) in
          elim (fork_step m b a on.0 on.1 (fork_swapped m a b f)) [
            | inl t ↦ (let le : t.0 ≤ a = t.1 in (b, t.0, hb, omega arith, t.2))
            | inr lower ↦ twins_to k n m on.0 a (omega arith) (omega arith) ha lower
          ])
      | inl neither ↦ (
        a,
        b,
        ha,
        hb,
        record {
          first = f.first;
          second = f.second;
          apart = λ same. both_ways (is_self_ancestor L a b) f.not_above (subst (λ q. is_self_ancestor L a q ≡ true) same (is_self_ancestor_self L e a));
          on_same = none ∙ sym neither;
        },
      )
    ]
  ]

  pub twins_of_fork : (n m a b : ℕ) → a < n → b < n → Fork L m a b → (c : ℕ) × (d : ℕ) × (c < n) × (d < n) × Twins L m c d
  twins_of_fork n m a b ha hb f = twins_to (suc (a + b)) n m a b (omega arith) ha hb f

-- no row is a fork by a member with a row of another creator
pub no_other_side : (L : List Link) (x m a : ℕ) → eqb (creator L a) m ≡ false → some_ancestor L x (is_fork L m a) ≡ false
no_other_side L x m a h = some_below_none (suc x) (λ b. is_ancestor L x b && is_fork L m a b) (λ b hb e.
    let fork = fork_is L m a b (and_parts (is_ancestor L x b) (is_fork L m a b) e).1 in
    both_ways (eqb (creator L a) m) h (eq-eqb (creator L a) m fork.first))
