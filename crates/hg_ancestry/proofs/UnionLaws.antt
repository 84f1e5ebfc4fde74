-- Forks in two sets of rows together: one is in the first set, or in the other, or has a row of each alone
use Rattle.std.proofs.Common.{◌≡◌, ℕ, ◌<◌, ◌||◌, ◌&&◌, not, eqb, true, false, Bool, List, length, ap₂, inl, inr}
use Rattle.std.proofs.lemmas.Bool.{cases_Bool, both_ways, or_cases, or_left, or_right, and_parts, and_from, eq-eqb, eqb-true, not-true, not_from_false, false_from_ne_true}
use Rattle.hg_model.specs.Places.{some_below}
use Rattle.hg_model.specs.Links.{Link, creator}
use Rattle.hg_model.specs.Ancestry.{is_self_ancestor}
use Rattle.hg_model.specs.Forks.{is_fork}
use Rattle.hg_model.proofs.PlacesLaws.{some_below_from, some_below_found, some_below-same}
use Rattle.hg_model.proofs.ReachLaws.{bool_iff}
use Rattle.hg_model.proofs.ForkLaws.{Fork, fork_is, is_fork_from}
use Rattle.hg_ancestry.specs.Held.{is_apart}

-- a set that has with each of its rows that row's self-ancestors
pub record IsClosed (L : List Link) (S : ℕ → Bool) : Type 0 where
  pub closed : (a b : ℕ) → S a ≡ true → is_self_ancestor L a b ≡ true → S b ≡ true

-- two rows of the set are a fork by m
abbrev pub fork_in : List Link → (ℕ → Bool) → ℕ → Bool
fork_in L S m = some_below (length L) (λ a. some_below (length L) (λ b. (S a && S b) && is_fork L m a b))

-- the rows of both sets
abbrev pub union : (ℕ → Bool) → (ℕ → Bool) → ℕ → Bool
union A B k = A k || B k

module _ (L : List Link) (m : ℕ) where
  pub fork_in_found : (S : ℕ → Bool) → fork_in L S m ≡ true → (a : ℕ) × (b : ℕ) × (a < length L) × (b < length L) × (S a ≡ true) × (S b ≡ true) × Fork L m a b
  fork_in_found S h =
      let one = some_below_found (length L) (λ a. some_below (length L) (λ b. (S a && S b) && is_fork L m a b)) h in
      let two = some_below_found (length L) (λ b. (S one.0 && S b) && is_fork L m one.0 b) one.2 in
      let parts = and_parts (S one.0 && S two.0) (is_fork L m one.0 two.0) two.2 in
      let both = and_parts (S one.0) (S two.0) parts.0 in
      (one.0, two.0, one.1, two.1, both.0, both.1, fork_is L m one.0 two.0 parts.1)

  pub fork_in_from : (S : ℕ → Bool) (a b : ℕ) → a < length L → b < length L → S a ≡ true → S b ≡ true → Fork L m a b → fork_in L S m ≡ true
  fork_in_from S a b ha hb in_a in_b f =
      some_below_from (length L) (λ a. some_below (length L) (λ b. (S a && S b) && is_fork L m a b)) a ha
      (some_below_from (length L) (λ b. (S a && S b) && is_fork L m a b) b hb
      (and_from (S a && S b) (is_fork L m a b) (and_from (S a) (S b) in_a in_b) (is_fork_from L m a b f)))

  pub fork_in_grows : (A B : ℕ → Bool) → ((a : ℕ) → a < length L → A a ≡ true → B a ≡ true) → fork_in L A m ≡ true → fork_in L B m ≡ true
  fork_in_grows A B more h =
      let f = fork_in_found A h in
      fork_in_from B f.0 f.1 f.2 f.3 (more f.0 f.2 f.4) (more f.1 f.3 f.5) f.6

  -- a row by m of the first set alone
  pub apart_found : (A B : ℕ → Bool) → is_apart L A B m ≡ true → (a : ℕ) × (a < length L) × (A a ≡ true) × (B a ≡ false) × (creator L a ≡ m)
  apart_found A B h =
      let a = some_below_found (length L) (λ a. (A a && not (B a)) && eqb (creator L a) m) h in
      let parts = and_parts (A a.0 && not (B a.0)) (eqb (creator L a.0) m) a.2 in
      let sides = and_parts (A a.0) (not (B a.0)) parts.0 in
      (a.0, a.1, sides.0, not-true (B a.0) sides.1, eqb-true (creator L a.0) m parts.1)

  pub apart_from : (A B : ℕ → Bool) (a : ℕ) → a < length L → A a ≡ true → B a ≡ false → creator L a ≡ m → is_apart L A B m ≡ true
  apart_from A B a ha here there by_m =
      some_below_from (length L) (λ a. (A a && not (B a)) && eqb (creator L a) m) a ha
      (and_from (A a && not (B a)) (eqb (creator L a) m) (and_from (A a) (not (B a)) here (not_from_false (B a) there)) (eq-eqb (creator L a) m by_m))

  pub apart-same : (A B C D : ℕ → Bool) → ((a : ℕ) → a < length L → A a ≡ C a) → ((a : ℕ) → a < length L → B a ≡ D a) → is_apart L A B m ≡ is_apart L C D m
  apart-same A B C D first second =
      some_below-same (length L) (λ a. (A a && not (B a)) && eqb (creator L a) m) (λ a. (C a && not (D a)) && eqb (creator L a) m)
      (λ a h. ap₂ (λ (here there : Bool). (here && not there) && eqb (creator L a) m) (first a h) (second a h))

  module _ (A B : ℕ → Bool) where
    abbrev forks_of_two : Bool
    forks_of_two = (fork_in L A m || fork_in L B m) || (is_apart L A B m && is_apart L B A m)

    in_second : (a : ℕ) → union A B a ≡ true → A a ≡ false → B a ≡ true
    in_second a h none = elim (or_cases (A a) (B a) h) [
      | inl first ↦ absurd (both_ways (A a) none first)
      | inr second ↦ second
    ]

    in_first : (a : ℕ) → union A B a ≡ true → B a ≡ false → A a ≡ true
    in_first a h none = elim (or_cases (A a) (B a) h) [
      | inl first ↦ first
      | inr second ↦ absurd (both_ways (B a) none second)
    ]

    told_first : fork_in L A m ≡ true → forks_of_two ≡ true
    told_first h = or_left (fork_in L A m || fork_in L B m) (is_apart L A B m && is_apart L B A m) (or_left (fork_in L A m) (fork_in L B m) h)

    told_second : fork_in L B m ≡ true → forks_of_two ≡ true
    told_second h = or_left (fork_in L A m || fork_in L B m) (is_apart L A B m && is_apart L B A m) (or_right (fork_in L A m) (fork_in L B m) h)

    -- of two rows the one in the first set alone, and the other in the second alone
    told_apart : (a b : ℕ) → a < length L → b < length L → A a ≡ true → B a ≡ false → B b ≡ true → A b ≡ false → creator L a ≡ m → creator L b ≡ m → forks_of_two ≡ true
    told_apart a b ha hb a_in a_out b_in b_out by_a by_b =
        or_right (fork_in L A m || fork_in L B m) (is_apart L A B m && is_apart L B A m)
        (and_from (is_apart L A B m) (is_apart L B A m) (apart_from A B a ha a_in a_out by_a) (apart_from B A b hb b_in b_out by_b))

    union_told : fork_in L (union A B) m ≡ true → forks_of_two ≡ true
    union_told h =
        let f = fork_in_found (union A B) h in
        let a : ℕ = f.0 in
        let b : ℕ = f.1 in
        elim (cases_Bool (A a)) [
          | inl a_first ↦ elim (cases_Bool (A b)) [
            | inl b_first ↦ told_first (fork_in_from A a b f.2 f.3 a_first b_first f.6)
            | inr b_out ↦ elim (cases_Bool (B a)) [
              | inl a_second ↦ told_second (fork_in_from B a b f.2 f.3 a_second (in_second b f.5 b_out) f.6)
              | inr a_out ↦ told_apart a b f.2 f.3 a_first a_out (in_second b f.5 b_out) b_out f.6.first f.6.second
            ]
          ]
          | inr a_out ↦ elim (cases_Bool (B b)) [
            | inl b_second ↦ told_second (fork_in_from B a b f.2 f.3 (in_second a f.4 a_out) b_second f.6)
            | inr b_out ↦ told_apart b a f.3 f.2 (in_first b f.5 b_out) b_out (in_second a f.4 a_out) a_out f.6.second f.6.first
          ]
        ]

    union_there : IsClosed L A → IsClosed L B → forks_of_two ≡ true → fork_in L (union A B) m ≡ true
    union_there closed_a closed_b h = elim (or_cases (fork_in L A m || fork_in L B m) (is_apart L A B m && is_apart L B A m) h) [
      | inl one_set ↦ elim (or_cases (fork_in L A m) (fork_in L B m) one_set) [
        | inl first ↦ fork_in_grows A (union A B) (λ a ha up. or_left (A a) (B a) up) first
        | inr second ↦ fork_in_grows B (union A B) (λ a ha up. or_right (A a) (B a) up) second
      ]
      | inr apart ↦
          (let parts = and_parts (is_apart L A B m) (is_apart L B A m) apart in
          let a = apart_found A B parts.0 in
          let b = apart_found B A parts.1 in
          fork_in_from (union A B) a.0 b.0 a.1 b.1 (or_left (A a.0) (B a.0) a.2) (or_right (A b.0) (B b.0) b.2)
          (record {
            first = a.4;
            second = b.4;
            not_above = false_from_ne_true (is_self_ancestor L a.0 b.0) (λ up. both_ways (A b.0) b.3 (closed_a.closed a.0 b.0 a.2 up));
            not_below = false_from_ne_true (is_self_ancestor L b.0 a.0) (λ up. both_ways (B a.0) a.3 (closed_b.closed b.0 a.0 b.2 up));
          }))
    ]

    pub union_forks : IsClosed L A → IsClosed L B → fork_in L (union A B) m ≡ ((fork_in L A m || fork_in L B m) || (is_apart L A B m && is_apart L B A m))
    union_forks closed_a closed_b = bool_iff (fork_in L (union A B) m) forks_of_two union_told (union_there closed_a closed_b)
