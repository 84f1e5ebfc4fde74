-- A step of the loop that makes the ballots on one row
use Rattle.std.proofs.Common.{◌≡◌, ◌≢◌, ℕ, ◌<◌, Bool, false, cond, ◌&&◌, not, eqb, List, length, slice_index, sym, refl, ap, ap₂, ◌∙◌, arith}
use Rattle.std.specs.List.{AllByRecursion}
use Rattle.std.proofs.lemmas.Bool.{eq-eqb, ne_eqb, and_left, and_right, false_from_ne_true}
use Rattle.hg_model.specs.declared.ballot.Ballot.{Ballot}
use Rattle.hg_model.specs.Places.{IsEarlier}
use Rattle.hg_model.specs.Among.{weight_among}
use Rattle.hg_model.specs.Links.{parents}
use Rattle.hg_model.specs.Stakes.{total}
use Rattle.hg_model.specs.Seeing.{sees}
use Rattle.hg_model.specs.Rounds.{is_witness, stake_at, weight_of}
use Rattle.hg_model.specs.Order.{coin_at}
use Rattle.hg_model.specs.Prefix.{Graph, ballot_of, links_of}
use Rattle.hg_model.specs.Votes.{is_voter, weighed_vote, weighed_decides, yes_votes, no_votes, rounds_above, vote_of, decides}
use Rattle.hg_model.proofs.PlacesLaws.{weight_below-equal, weight_below-longer, weight_below-same}
use Rattle.hg_model.proofs.LinkLaws.{length-links}
use Rattle.hg_model.proofs.StakeLaws.{weight_among-list_below}
use Rattle.hg_model.proofs.ListLaws.{all_list_below}
use Rattle.hg_model.proofs.VoteLaws.{vote_of-at}
use Rattle.hg_votes.specs.declared.tally.Tally.{Tally}
use Rattle.hg_votes.specs.Tallies.{no_ballot, vote_at, voters_of, tally_of, weighed_ballot}
use Rattle.hg_votes.proofs.VoterLaws.{voter_below}
use Rattle.hg_plain_graph.specs.Tables.{IsTableOf}

pub voters_before : (g : Graph) (y : ℕ) (voters : List ℕ) → IsEarlier (parents (links_of g)) → voters ≡ voters_of g y → AllByRecursion (λ w. w < y) voters
unfolding voters_of
voters_before g y voters e is =
    rw is (all_list_below (λ w. w < y) (λ w. w) (length g.rows) (is_voter g.members (links_of g) y) (λ k h voter. voter_below g.members (links_of g) e y k voter))

module _ (g : Graph) (x y : ℕ) (e : IsEarlier (parents (links_of g))) (there : y < length g.rows) (ballots : List Ballot) (matches : IsTableOf no_ballot (ballot_of g x) y ballots) where
  vote_at-matches : (w : ℕ) → w < y → vote_at ballots w ≡ vote_of g.members g.coin (links_of g) (coin_at g.rows) x w
  vote_at-matches w h = ap (λ (b : Ballot). b.vote) (matches.at w h)

  -- the stakes of rows
  module _ (stakes : List ℕ) (weighs : IsTableOf 0 (stake_at g.members (links_of g)) (length (links_of g)) stakes) where
    weighed_as : (f : Bool → Bool) →
        weight_among (slice_index stakes) (λ w. f (vote_at ballots w)) (voters_of g y) ≡ weight_of g.members (links_of g) y (λ w. is_voter g.members (links_of g) y w && f (vote_of g.members g.coin (links_of g) (coin_at g.rows) x w))
    unfolding voters_of
    weighed_as f =
        let n = g.members in
        let L = links_of g in
        let weight : ℕ → ℕ = slice_index stakes in
        weight_among-list_below weight (λ w. f (vote_at ballots w)) (length g.rows) (is_voter n L y)
        ∙ (weight_below-longer weight y (length g.rows) (λ w. is_voter n L y w && f (vote_at ballots w)) (omega arith)
        (λ w past h. and_left (is_voter n L y w) (f (vote_at ballots w)) (false_from_ne_true (is_voter n L y w) (λ voter. absurd (let below = voter_below n L e y w voter in omega arith))))
        ∙ (weight_below-same weight y _ _ (λ w h. rw (vote_at-matches w h) refl)
        ∙ weight_below-equal weight (stake_at n L) y _ (λ w h. weighs.at w (omega (arith, length-links g.rows)))))

    -- any other number of rounds above x
    pub ballot_far : (voters : List ℕ) (above all c : ℕ) (bit : Bool) (tally : Tally) (weighed : Ballot) (witness : Bool) →
        voters ≡ voters_of g y → above ≡ rounds_above g.members (links_of g) x y → above ≢ 1 → all ≡ total g.members → c ≡ g.coin → bit ≡ coin_at g.rows y →
        tally ≡ tally_of (slice_index stakes) ballots voters → weighed ≡ weighed_ballot all c above tally.yes tally.no bit →
        witness ≡ is_witness g.members (links_of g) y → ◌≡◌ {A = Ballot} (record { vote = weighed.vote; decides = witness && weighed.decides }) (ballot_of g x y)
    unfolding decides
    ballot_far voters above all c bit tally weighed witness voters_is above_is far all_is c_is bit_is tally_is weighed_is witness_is =
        let L = links_of g in
        let coin = coin_at g.rows in
        let yes_sum = yes_votes g.members L (vote_of g.members g.coin L coin x) y in
        let no_sum = no_votes g.members L (vote_of g.members g.coin L coin x) y in
        let yes_same : tally.yes ≡ yes_sum = ap (λ (t : Tally). t.yes) (tally_is ∙ ap (tally_of (slice_index stakes) ballots) voters_is) ∙ weighed_as (λ v. v) in
        let no_same : tally.no ≡ no_sum = ap (λ (t : Tally). t.no) (tally_is ∙ ap (tally_of (slice_index stakes) ballots) voters_is) ∙ weighed_as not in
        let not_one : eqb (rounds_above g.members L x y) 1 ≡ false = ne_eqb (rounds_above g.members L x y) 1 (λ e. far (above_is ∙ e)) in
        let vote_same : weighed.vote ≡ vote_of g.members g.coin L coin x y =
        ap (λ (b : Ballot). b.vote) weighed_is ∙ (rw (all_is, c_is, above_is, yes_same, no_same, bit_is) refl
        ∙ sym (vote_of-at g.members g.coin L coin x y
        ∙ ap (λ b. cond b (sees L y x) (weighed_vote (total g.members) g.coin (rounds_above g.members L x y) yes_sum no_sum (coin y))) not_one)) in
        let decides_same : weighed.decides ≡ weighed_decides (total g.members) g.coin (rounds_above g.members L x y) yes_sum no_sum =
        ap (λ (b : Ballot). b.decides) weighed_is ∙ rw (all_is, c_is, above_is, yes_same, no_same) refl in
        ap₂ (λ v d. record { vote = v; decides = d }) vote_same (ap₂ (λ a b. a && b) witness_is decides_same)

-- one round above x
pub ballot_next : (g : Graph) (x y above : ℕ) (vote : Bool) → above ≡ rounds_above g.members (links_of g) x y → above ≡ 1 → vote ≡ sees (links_of g) y x →
    ◌≡◌ {A = Ballot} (record { vote = vote; decides = false }) (ballot_of g x y)
unfolding decides
ballot_next g x y above vote above_is one vote_is =
    let n = g.members in
    let L = links_of g in
    let coin = coin_at g.rows in
    let at_one : rounds_above n L x y ≡ 1 = sym above_is ∙ one in
    let yes_count = yes_votes n L (vote_of n g.coin L coin x) y in
    let no_count = no_votes n L (vote_of n g.coin L coin x) y in
    let vote_same : vote ≡ vote_of n g.coin L coin x y =
    vote_is ∙ sym (vote_of-at n g.coin L coin x y
    ∙ ap (λ b. cond b (sees L y x) (weighed_vote (total n) g.coin (rounds_above n L x y) yes_count no_count (coin y))) (eq-eqb (rounds_above n L x y) 1 at_one)) in
    let none : weighed_decides (total n) g.coin (rounds_above n L x y) yes_count no_count ≡ false = rw at_one refl in
    ap₂ (λ v d. record { vote = v; decides = d }) vote_same (sym (and_right (is_witness n L y) _ none))
