-- The ballot of a witness, from those of its voters
use Rattle.std.proofs.Common.{◌≡◌, ◌≢◌, ℕ, ◌-◌, ◌<◌, ◌≤◌, Bool, true, false, cond, ◌*◌, ◌&&◌, eqb, not, List, length, Some, slice_get, refl, sym, ap, ap₂, ◌∙◌, arith}
use Rattle.std.proofs.Math.Bool.{and_assoc}
use Rattle.std.proofs.lemmas.Bool.{eq-eqb, ne_eqb, and_left, and_right, false_from_ne_true}
use Rattle.hg_model.specs.declared.row.Row.{Row}
use Rattle.hg_model.specs.declared.ballot.Ballot.{Ballot}
use Rattle.hg_model.specs.Places.{IsEarlier, weight_below}
use Rattle.hg_model.specs.Among.{weight_among}
use Rattle.hg_model.specs.Stakes.{total}
use Rattle.hg_model.specs.Links.{parents}
use Rattle.hg_model.specs.Seeing.{sees, strongly_sees}
use Rattle.hg_model.specs.Rounds.{round_of, is_witness, stake_at, weight_of}
use Rattle.hg_model.specs.Votes.{is_voter, weighed_vote, weighed_decides, yes_votes, no_votes, rounds_above, vote_of, decides}
use Rattle.hg_model.specs.Order.{row_sig, middle_bit, coin_at}
use Rattle.hg_model.specs.Prefix.{Graph, IsCounted, ballot_of, links_of}
use Rattle.hg_model.specs.GraphWords.{round_in, shape_in, vote_in}
use Rattle.hg_model.proofs.PlacesLaws.{weight_below-same, weight_below-longer}
use Rattle.hg_model.proofs.LinkLaws.{length-links}
use Rattle.hg_model.proofs.StandingLaws.{witnesses_in-standings}
use Rattle.hg_bits.specs.Words.{has_bit}
use Rattle.hg_model.proofs.ListLaws.{length-list_below-le}
use Rattle.hg_model.proofs.StakeLaws.{weight_among-list_below}
use Rattle.hg_model.proofs.VoteLaws.{vote_of-at}
use Rattle.hg_votes.specs.declared.tally.Tally.{Tally}
use Rattle.hg_votes.specs.Slots.{HoldsSlots, slot_weight}
use Rattle.hg_votes.specs.Tallies.{tally_in, voters_of, weighed_ballot}
use Rattle.hg_votes.specs.Counting.{HasRoom, HoldsVoted, IsVotersOf, witnesses_of}
use Rattle.hg_votes.proofs.SlotLaws.{shared_slots}
use Rattle.hg_votes.proofs.VoterLaws.{voter_below}

-- the coin of a row that was read
pub coin_read : (G : List Row) (y : ℕ) (row : Row) → slice_get G y ≡ Some row → middle_bit row.sig ≡ coin_at G y
unfolding coin_at Rattle.hg_model.specs.Order.sig_at
coin_read G y row is = sym (ap (λ found. middle_bit (row_sig found)) is)

pub few_voters : (g : Graph) (y : ℕ) (voters : List ℕ) → voters ≡ voters_of g y → length voters ≤ length g.rows
unfolding voters_of
few_voters g y voters is = rw is (length-list_below-le (λ w. w) (length g.rows) (is_voter g.members (links_of g) y))

module _ (g : Graph) (x y : ℕ) (counted : IsCounted g x (round_of g.members (links_of g) y) y) where
  -- one round above x
  pub ballot_next : (above : ℕ) (vote : Bool) → above ≡ rounds_above g.members (links_of g) x y → above ≡ 1 → vote ≡ sees (links_of g) y x →
      ◌≡◌ {A = Ballot} (record { vote = vote; decides = false }) (ballot_of g x y)
  unfolding decides
  ballot_next above vote above_is one vote_is =
      let n = g.members in
      let L = links_of g in
      let coin = coin_at g.rows in
      let at_one : rounds_above n L x y ≡ 1 = sym above_is ∙ one in
      let yes_count = yes_votes n L (vote_of n g.coin L coin x) y in
      let no_count = no_votes n L (vote_of n g.coin L coin x) y in
      let vote_same : vote ≡ vote_of n g.coin L coin x y =
      vote_is ∙ sym (vote_of-at n g.coin L coin x y
      ∙ ap (λ b. cond b (sees L y x) (weighed_vote (total n) g.coin (rounds_above n L x y) yes_count no_count (coin y))) (eq-eqb (rounds_above n L x y) 1 at_one)) in
      let none : weighed_decides (total n) g.coin (rounds_above n L x y) yes_count no_count ≡ false = rw at_one refl in
      ap₂ (λ v d. record { vote = v; decides = d }) vote_same (sym (and_right (is_witness n L y) _ none))

  module _ (e : IsEarlier (parents (links_of g))) (far : rounds_above g.members (links_of g) x y ≢ 1) (voters voted : List ℕ) (made : IsVotersOf g y voters)
      (before : HoldsVoted g x (round_in g y - 1) voted) where
    held : HoldsSlots voted (witnesses_of g (round_in g y - 1)) (vote_in g x)
    held =
        let above : round_of g.members (links_of g) x < round_of g.members (links_of g) y = counted.above in
        let far_off : rounds_above g.members (links_of g) x y ≢ 1 = far in
        before.slots (omega arith)

    -- what the sets share weighs what the voters do who vote so
    weighed_as : (f : Bool → Bool) →
        weight_below (slot_weight (stake_at g.members (links_of g)) (witnesses_of g (round_in g y - 1))) (64 * length voters) (λ i. has_bit voters i && f (has_bit voted i))
        ≡ weight_of g.members (links_of g) y (λ w. is_voter g.members (links_of g) y w && f (vote_in g x w))
    unfolding is_witness
    weighed_as f =
        let n = g.members in
        let L = links_of g in
        let weight = stake_at n L in
        let place : y < length g.rows = counted.place in
        let rest : ℕ → Bool = λ w. strongly_sees n L y w && f (vote_in g x w) in
        let listed : ℕ → Bool = λ w. is_witness n L w && eqb (round_of n L w) (round_of n L y - 1) in
        shared_slots voters (witnesses_of g (round_in g y - 1)) (strongly_sees n L y) made.slots weight voted (vote_in g x) held f
        ∙ (ap (weight_among weight rest) (witnesses_in-standings n L (round_of n L y - 1))
        ∙ (weight_among-list_below weight rest (length L) listed
        ∙ (weight_below-same weight (length L) (λ w. listed w && rest w) (λ w. is_voter n L y w && f (vote_in g x w)) (λ w h. sym (and_assoc (listed w) (strongly_sees n L y w) (f (vote_in g x w))))
        ∙ weight_below-longer weight y (length L) (λ w. is_voter n L y w && f (vote_in g x w)) (omega (arith, length-links g.rows))
        (λ w past h. and_left (is_voter n L y w) (f (vote_in g x w)) (false_from_ne_true (is_voter n L y w) (λ voter. absurd (let below = voter_below n L e y w voter in omega arith)))))))

    -- more rounds above x
    pub ballot_far : (above all period : ℕ) (bit : Bool) (tally : Tally) (weighed : Ballot) →
        above ≡ rounds_above g.members (links_of g) x y → all ≡ total g.members → period ≡ g.coin → bit ≡ coin_at g.rows y →
        tally ≡ tally_in (shape_in g) (64 * length voters) (witnesses_of g (round_in g y - 1)) voters voted → weighed ≡ weighed_ballot all period above tally.yes tally.no bit →
        weighed ≡ ballot_of g x y
    unfolding decides
    ballot_far above all period bit tally weighed above_is all_is period_is bit_is tally_is weighed_is =
        let n = g.members in
        let L = links_of g in
        let coin = coin_at g.rows in
        let yes_sum = yes_votes n L (vote_of n g.coin L coin x) y in
        let no_sum = no_votes n L (vote_of n g.coin L coin x) y in
        let yes_same : tally.yes ≡ yes_sum = ap (λ (t : Tally). t.yes) tally_is ∙ weighed_as (λ b. b) in
        let no_same : tally.no ≡ no_sum = ap (λ (t : Tally). t.no) tally_is ∙ weighed_as not in
        let vote_same : weighed_vote (total n) g.coin (rounds_above n L x y) yes_sum no_sum (coin y) ≡ vote_of n g.coin L coin x y =
        sym (vote_of-at n g.coin L coin x y
        ∙ ap (λ b. cond b (sees L y x) (weighed_vote (total n) g.coin (rounds_above n L x y) yes_sum no_sum (coin y))) (ne_eqb (rounds_above n L x y) 1 far)) in
        let decides_same : weighed_decides (total n) g.coin (rounds_above n L x y) yes_sum no_sum ≡ decides n g.coin L coin x y =
        (let witness : is_witness n L y ≡ true = counted.witness in rw witness refl) in
        let same : weighed_ballot all period above tally.yes tally.no bit ≡ weighed_ballot (total n) g.coin (rounds_above n L x y) yes_sum no_sum (coin y) =
        rw (all_is, period_is, above_is, yes_same, no_same, bit_is) refl in
        weighed_is ∙ (same ∙ ap₂ (λ (v d : Bool). record { vote = v; decides = d }) vote_same decides_same)

-- the words of the voters are among those of the round
pub words_fit : (g : Graph) (y words : ℕ) (voters : List ℕ) → IsVotersOf g y voters → HasRoom g words → length voters ≤ words
words_fit g y words voters made room = omega (arith, made.few, room.room (round_in g y - 1))
