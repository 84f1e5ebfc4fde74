-- What passes the tests of a graph keeps to its rules
use Rattle.std.proofs.Common.{◌≡◌, ℕ, ◌<◌, ◌≤◌, Bool, true, false, not, ◌&&◌, ltb, eqb, List, [], ◌∷◌, length, sym, refl, ap, ◌∙◌, inl, inr}
use Rattle.std.specs.List.{list_all}
use Rattle.std.proofs.lemmas.Bool.{cases_lt, or_cases, and_parts, eqb-true, eq-eqb, ltb-true, true≢false, both_ways, not-true}
use Rattle.hg_model.specs.Places.{has_place}
use Rattle.hg_model.specs.Stakes.{Stakes, member_count}
use Rattle.hg_model.specs.Links.{Link, later_places, parents, self_parent, other_parents, creator}
use Rattle.hg_model.specs.Graph.{IsShaped, is_shaped_at}
use Rattle.hg_model.proofs.LinkLaws.{parents_past, self_parent_past}

pub list_all_at : (test : ℕ → Bool) (ps : List ℕ) (p : ℕ) → has_place ps p ≡ true → list_all test ps ≡ true → test p ≡ true
list_all_at test [] p h all = absurd (true≢false (sym h))
list_all_at test (q ∷ ps) p h all =
    let parts = and_parts (test q) (list_all test ps) all in
    elim (or_cases (eqb q p) (has_place ps p) h) [
      | inl first ↦ (rw (← eqb-true q p first) parts.0)
      | inr rest ↦ list_all_at test ps p rest parts.1
    ]

other_parents_past : (L : List Link) (x : ℕ) → length L ≤ x → other_parents L x ≡ []
unfolding other_parents
other_parents_past L x h = ap later_places (parents_past L x h)

-- what the test of one event tells
record Shaped (n : Stakes) (L : List Link) (x : ℕ) : Type 0 where
  member : ltb (creator L x) (member_count n) ≡ true
  earlier : list_all (λ p. ltb p x) (parents L x) ≡ true
  self_by_same : list_all (λ p. eqb (creator L p) (creator L x)) (self_parent L x) ≡ true
  others_by_others : list_all (λ p. not (eqb (creator L p) (creator L x))) (other_parents L x) ≡ true

shaped_is : (n : Stakes) (L : List Link) (x : ℕ) → is_shaped_at n L x ≡ true → Shaped n L x
shaped_is n L x h =
    let member = ltb (creator L x) (member_count n) in
    let earlier = list_all (λ p. ltb p x) (parents L x) in
    let own = list_all (λ p. eqb (creator L p) (creator L x)) (self_parent L x) in
    let one = and_parts (member && earlier && own) (list_all (λ p. not (eqb (creator L p) (creator L x))) (other_parents L x)) h in
    let two = and_parts (member && earlier) own one.0 in
    let three = and_parts member earlier two.0 in
    record { member = three.0; earlier = three.1; self_by_same = two.1; others_by_others = one.1 }

module _ (n : Stakes) (L : List Link) (passes : (x : ℕ) → x < length L → is_shaped_at n L x ≡ true) where
  pub shaped_from_tests : IsShaped n L
  shaped_from_tests = record {
    members = λ x h. ltb-true (creator L x) (member_count n) (shaped_is n L x (passes x h)).member;
    earlier = record {
      earlier = λ x p h. elim (cases_lt x (length L)) [
        | inl inside ↦ ltb-true p x (list_all_at (λ p. ltb p x) (parents L x) p h (shaped_is n L x (passes x inside)).earlier)
        | inr past ↦ absurd (true≢false (sym h ∙ ap (λ ps. has_place ps p) (parents_past L x past)))
      ];
    };
    self_by_same = λ x p h. elim (cases_lt x (length L)) [
      | inl inside ↦ eqb-true (creator L p) (creator L x) (list_all_at (λ p. eqb (creator L p) (creator L x)) (self_parent L x) p h (shaped_is n L x (passes x inside)).self_by_same)
      | inr past ↦ absurd (true≢false (sym h ∙ ap (λ ps. has_place ps p) (self_parent_past L x past)))
    ];
    others_by_others = λ x p h. elim (cases_lt x (length L)) [
      | inl inside ↦ (λ same. both_ways (eqb (creator L p) (creator L x))
          (not-true (eqb (creator L p) (creator L x)) (list_all_at (λ p. not (eqb (creator L p) (creator L x))) (other_parents L x) p h (shaped_is n L x (passes x inside)).others_by_others))
          (eq-eqb (creator L p) (creator L x) same))
      | inr past ↦ absurd (true≢false (sym h ∙ ap (λ ps. has_place ps p) (other_parents_past L x past)))
    ];
  }

-- the test of an event without parents, and of one with some

no_parents : (a : Bool) → (a && true && true && true) ≡ a
no_parents true = refl
no_parents false = refl

some_parents : (a b c d e : Bool) → (a && (b && c) && (d && true) && e) ≡ (a && (b && c && d && e))
some_parents false b c d e = refl
some_parents true false c d e = refl
some_parents true true false d e = refl
some_parents true true true false e = refl
some_parents true true true true e = refl

pub is_shaped_at-first : (n : Stakes) (L : List Link) (x : ℕ) → parents L x ≡ [] → is_shaped_at n L x ≡ ltb (creator L x) (member_count n)
unfolding self_parent other_parents
is_shaped_at-first n L x none = rw none (no_parents (ltb (creator L x) (member_count n)))

pub is_shaped_at-made : (n : Stakes) (L : List Link) (x own : ℕ) (others : List ℕ) → parents L x ≡ own ∷ others →
    is_shaped_at n L x ≡ (ltb (creator L x) (member_count n) && (ltb own x && list_all (λ p. ltb p x) others && eqb (creator L own) (creator L x)
    && list_all (λ p. not (eqb (creator L p) (creator L x))) others))
unfolding self_parent other_parents
is_shaped_at-made n L x own others on =
    rw on (some_parents (ltb (creator L x) (member_count n)) (ltb own x) (list_all (λ p. ltb p x) others) (eqb (creator L own) (creator L x))
    (list_all (λ p. not (eqb (creator L p) (creator L x))) others))
