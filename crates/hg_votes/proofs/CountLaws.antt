-- Counting the votes of one round more
use Rattle.std.proofs.Common.{◌≡◌, ◌≢◌, ℕ, ◌+◌, ◌-◌, ◌<◌, ◌≤◌, Bool, true, false, ◌⊎◌, ◌&&◌, eqb, List, [], ◌∷◌, ◌++◌, length, take, get_or, slice_set, IsTrue, refl, sym, ap, subst, ◌∙◌, inl, inr, arith}
use Rattle.std.proofs.lemmas.Bool.{cases_eq, cases_lt, eq-eqb, eqb-true, or_cases, or_left, or_right, and_from, true≢false}
use Rattle.std.proofs.lemmas.List.{take_more, length-set, get_or-set_same, get_or-set_other}
use Rattle.hg_model.specs.declared.ballot.Ballot.{Ballot}
use Rattle.hg_model.specs.Places.{has_place}
use Rattle.hg_model.specs.Rounds.{round_of, is_witness}
use Rattle.hg_model.specs.Standings.{Standing, standings_of, witnesses_in}
use Rattle.hg_model.specs.Prefix.{Graph, IsCounted, ballot_of, links_of}
use Rattle.hg_model.proofs.PlacesLaws.{some_below_from}
use Rattle.hg_model.proofs.ListLaws.{list_any-list_below}
use Rattle.hg_model.proofs.LinkLaws.{length-links}
use Rattle.hg_model.proofs.PrefixLaws.{IsWitnessOf}
use Rattle.hg_model.proofs.StandingLaws.{witnesses_in-standings}
use Rattle.hg_votes.specs.Tallies.{no_ballot}
use Rattle.hg_votes.specs.Counting.{HoldsBallots, number_of}
use Rattle.hg_votes.proofs.VoterLaws.{number-below, number-same}

-- the list of a round's witnesses has each of them
pub witness_listed : (g : Graph) (r y : ℕ) (S : List Standing) (ws : List ℕ) → S ≡ standings_of g.members (links_of g) → ws ≡ witnesses_in S r → IsWitnessOf g r y → has_place ws y ≡ true
witness_listed g r y S ws matches is w =
    let n = g.members in
    let L = links_of g in
    let test : ℕ → Bool = λ y. is_witness n L y && eqb (round_of n L y) r in
    let place : y < length g.rows = w.place in
    let passes : test y ≡ true = and_from (is_witness n L y) (eqb (round_of n L y) r) w.witness (eq-eqb (round_of n L y) r w.round) in
    rw (is, matches, witnesses_in-standings n L r)
    (list_any-list_below (λ p. eqb p y) (length L) test
    ∙ some_below_from (length L) (λ p. test p && eqb p y) y (omega (arith, length-links g.rows)) (and_from (test y) (eqb y y) passes (eq-eqb y y refl)))

has_place-append : (xs : List ℕ) (z y : ℕ) → has_place (xs ++ z ∷ []) y ≡ true → (has_place xs y ≡ true) ⊎ (z ≡ y)
has_place-append [] z y h = elim (or_cases (eqb z y) false h) [ inl same ↦ inr (eqb-true z y same) | inr none ↦ inl none ]
has_place-append (x ∷ xs) z y h = elim (or_cases (eqb x y) (has_place (xs ++ z ∷ []) y) h) [
  | inl first ↦ inl (or_left (eqb x y) (has_place xs y) first)
  | inr later ↦ elim (has_place-append xs z y later) [
    | inl found ↦ inl (or_right (eqb x y) (has_place xs y) found)
    | inr last ↦ inr last
  ]
]

-- the ballots of the rounds before r, and those of the listed witnesses of round r
pub record HoldsRound (g : Graph) (x r : ℕ) (listed : List ℕ) (ballots : List Ballot) : Type 0 where
  pub before : HoldsBallots g x (r - 1) ballots
  pub listed_at : (y : ℕ) → IsCounted g x r y → has_place listed y ≡ true → get_or ballots (number_of g y) no_ballot ≡ ballot_of g x y

pub round_begun : (g : Graph) (x r : ℕ) (ballots : List Ballot) → HoldsBallots g x (r - 1) ballots → HoldsRound g x r [] ballots
round_begun g x r ballots before = record { before = before; listed_at = λ y h there. absurd (true≢false (sym there)) }

module _ (g : Graph) (x r : ℕ) (ws : List ℕ) (below : 0 < r) where
  -- one ballot more
  pub round_more : (i y d number : ℕ) (ballots : List Ballot) (ballot : Ballot) → i < length ws → get_or ws i d ≡ y → IsWitnessOf g r y → number ≡ number_of g y → ballot ≡ ballot_of g x y →
      HoldsRound g x r (take i ws) ballots → HoldsRound g x r (take (i + 1) ws) (slice_set ballots number ballot)
  round_more i y d number ballots ballot h here w number_is ballot_is held =
      let long : length ballots ≡ number_of g (length g.rows) = held.before.len in
      let inside : number_of g y < length ballots = omega (arith, number-below g y (length g.rows) w.place w.witness) in
      let other : (z : ℕ) → IsTrue (is_witness g.members (links_of g) z) → z ≢ y → get_or (slice_set ballots number ballot) (number_of g z) no_ballot ≡ get_or ballots (number_of g z) no_ballot =
      λ z witness apart. get_or-set_other ballots number (number_of g z) ballot no_ballot (λ same. apart (number-same g z y witness w.witness (same ∙ number_is))) in
      record {
        before = record {
          len = length-set ballots number ballot ∙ long;
          at = λ z known.
              let low : round_of g.members (links_of g) z ≤ r - 1 = known.counted in
              let apart : z ≢ y = λ same. absurd (omega (arith, w.round, ap (round_of g.members (links_of g)) same)) in
              other z known.witness apart ∙ held.before.at z known;
        };
        listed_at = λ z known there. elim (cases_eq z y) [
          | inl same ↦ ap (λ k. get_or (slice_set ballots number ballot) (number_of g k) no_ballot) same
              ∙ (ap (λ k. get_or (slice_set ballots k ballot) (number_of g y) no_ballot) number_is
              ∙ (get_or-set_same ballots (number_of g y) ballot no_ballot inside ∙ (ballot_is ∙ ap (ballot_of g x) (sym same))))
          | inr apart ↦ other z known.witness apart
              ∙ held.listed_at z known (elim (has_place-append (take i ws) y z (subst (λ k. has_place (take i ws ++ k ∷ []) z ≡ true) here (subst (λ l. has_place l z ≡ true) (take_more ws i d h) there))) [
                | inl earlier ↦ earlier
                | inr last ↦ absurd (apart (sym last))
              ])
        ];
      }

  -- all of the round
  pub round_done : (S : List Standing) (ballots : List Ballot) → S ≡ standings_of g.members (links_of g) → ws ≡ witnesses_in S r → HoldsRound g x r ws ballots → HoldsBallots g x r ballots
  round_done S ballots matches is held = record {
    len = held.before.len;
    at = λ y known.
        let top : round_of g.members (links_of g) y ≤ r = known.counted in
        elim (cases_lt (round_of g.members (links_of g) y) r) [
          | inl low ↦ held.before.at y (record { place = known.place; witness = known.witness; above = known.above; counted = omega arith })
          | inr high ↦ held.listed_at y known (witness_listed g r y S ws matches is (record { place = known.place; witness = known.witness; round = omega arith }))
        ];
  }
