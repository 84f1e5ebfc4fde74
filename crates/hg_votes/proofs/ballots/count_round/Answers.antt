use Rattle.std.proofs.Common.{◌≡◌, ◌∙◌, ◌-◌, ℕ, List, [], length, get_or, sym, subst, ap, ap₂, arith, refl, rules, slice_index_or}
use Rattle.std.proofs.lemmas.List.{take_all}
use Rattle.hg_model.specs.declared.ballot.Ballot.{Ballot}
use Rattle.hg_model.specs.Standings.{Standing, witnesses_in}
use Rattle.hg_model.specs.GraphWords.{vote_in}
use Rattle.hg_votes.specs.Counting.{HoldsVoted, IsVotersOf, number_of}
use Rattle.hg_model.proofs.PrefixLaws.{IsWitnessOf, round_read, witness_read}
use Rattle.hg_votes.proofs.SlotLaws.{none_marked, marked_more}
use Rattle.hg_votes.proofs.VoterLaws.{number-below, number-le}
use Rattle.hg_votes.proofs.BallotLaws.{words_fit}
use Rattle.hg_votes.proofs.CountLaws.{HoldsRound, round_begun, round_more, round_done}
use Rattle.hg_votes.proofs.ballots.count_round.Goals as goal

pub loop-slot-init : goal.loop-slot-init
loop-slot-init g c =
    let graph = g.P.Prefix.graph c.args.p.now in
    record {
      len = c.fill.ensures.len ∙ c.requires.same;
      ballots = round_begun graph c.args.x c.args.r c.args.ballots.now c.requires.before;
      bits = none_marked _ _ (λ i. vote_in graph c.args.x (get_or c.witnesses-witnesses.result.now i 0)) (c.fill.ensures.after (search rules));
    }

pub number-number-requires : goal.number-number-requires
number-number-requires g c =
    let graph = g.P.Prefix.graph c.args.p.now in
    let w = witness_read graph c.args.r _ _ c.loop-slot.slot (g.met.P.Prefix.has_rounds c.args.p.now) c.witnesses-witnesses.ensures c.loop-slot-test.true in
    omega (arith, w.place, c.requires.voters.long)

pub voters-requires : goal.voters-requires
voters-requires g c =
    let graph = g.P.Prefix.graph c.args.p.now in
    let y = slice_index_or c.witnesses-witnesses.result.now c.loop-slot.slot 0 in
    let w : IsWitnessOf graph c.args.r y = witness_read graph c.args.r _ _ c.loop-slot.slot (g.met.P.Prefix.has_rounds c.args.p.now) c.witnesses-witnesses.ensures c.loop-slot-test.true in
    omega (arith, c.number-number.ensures, c.requires.voters.number y w.place, c.requires.voters.many, number-below graph y (length graph.rows) w.place w.witness)

pub next_ballot-ballot-requires-clause-counted : goal.next_ballot-ballot-requires-clause-counted
next_ballot-ballot-requires-clause-counted g c =
    let graph = g.P.Prefix.graph c.args.p.now in
    let y = slice_index_or c.witnesses-witnesses.result.now c.loop-slot.slot 0 in
    let w : IsWitnessOf graph c.args.r y = witness_read graph c.args.r _ _ c.loop-slot.slot (g.met.P.Prefix.has_rounds c.args.p.now) c.witnesses-witnesses.ensures c.loop-slot-test.true in
    record { place = w.place; witness = w.witness; above = omega (arith, c.requires.first, c.requires.opened.round, w.round); counted = omega arith }

pub next_ballot-ballot-requires-clause-above : goal.next_ballot-ballot-requires-clause-above
next_ballot-ballot-requires-clause-above g c =
    let graph = g.P.Prefix.graph c.args.p.now in
    let matches = g.met.P.Prefix.has_rounds c.args.p.now in
    let w = witness_read graph c.args.r _ _ c.loop-slot.slot matches c.witnesses-witnesses.ensures c.loop-slot-test.true in
    ap₂ (λ (a b : ℕ). a - b) (sym w.round) (c.round.ensures ∙ round_read graph _ c.args.x matches c.requires.opened.place)

voters_of_slot : goal.next_ballot-ballot-requires-clause-voters
voters_of_slot g c =
    let graph = g.P.Prefix.graph c.args.p.now in
    let y = slice_index_or c.witnesses-witnesses.result.now c.loop-slot.slot 0 in
    let w : IsWitnessOf graph c.args.r y = witness_read graph c.args.r _ _ c.loop-slot.slot (g.met.P.Prefix.has_rounds c.args.p.now) c.witnesses-witnesses.ensures c.loop-slot-test.true in
    let number_is : c.number-number.result ≡ number_of graph y = c.number-number.ensures ∙ c.requires.voters.number y w.place in
    subst (IsVotersOf graph y) (sym (c.voters.ensures ∙ ap (λ (k : ℕ). get_or c.args.voters.now.sets k []) number_is)) (c.requires.voters.voters y w.place w.witness)

pub next_ballot-ballot-requires-clause-voters : goal.next_ballot-ballot-requires-clause-voters
next_ballot-ballot-requires-clause-voters = voters_of_slot

pub next_ballot-ballot-requires-clause-wide : goal.next_ballot-ballot-requires-clause-wide
next_ballot-ballot-requires-clause-wide g c =
    words_fit (g.P.Prefix.graph c.args.p.now) _ (length c.args.voted.now) c.voters.result.now (voters_of_slot g c) c.requires.room

pub next_ballot-ballot-requires-clause-rows : goal.next_ballot-ballot-requires-clause-rows
next_ballot-ballot-requires-clause-rows g c =
    let graph = g.P.Prefix.graph c.args.p.now in
    let matches = g.met.P.Prefix.has_rounds c.args.p.now in
    let w = witness_read graph c.args.r _ _ c.loop-slot.slot matches c.witnesses-witnesses.ensures c.loop-slot-test.true in
    c.witnesses-rows.ensures ∙ ap₂ (λ (S : List Standing) (r : ℕ). witnesses_in S (r - 1)) matches (sym w.round)

pub next_ballot-ballot-requires-clause-before : goal.next_ballot-ballot-requires-clause-before
next_ballot-ballot-requires-clause-before g c =
    let graph = g.P.Prefix.graph c.args.p.now in
    let w = witness_read graph c.args.r _ _ c.loop-slot.slot (g.met.P.Prefix.has_rounds c.args.p.now) c.witnesses-witnesses.ensures c.loop-slot-test.true in
    subst (λ (r : ℕ). HoldsVoted graph c.args.x (r - 1) c.args.voted.now) (sym w.round) c.requires.voted

pub offset_bounds-ballots-number : goal.offset_bounds-ballots-number
offset_bounds-ballots-number g c =
    let graph = g.P.Prefix.graph c.args.p.now in
    let y = slice_index_or c.witnesses-witnesses.result.now c.loop-slot.slot 0 in
    let w : IsWitnessOf graph c.args.r y = witness_read graph c.args.r _ _ c.loop-slot.slot (g.met.P.Prefix.has_rounds c.args.p.now) c.witnesses-witnesses.ensures c.loop-slot-test.true in
    omega (arith, w.place, c.requires.short, c.number-number.ensures, c.requires.voters.number y w.place, number-le graph y)

pub bounds-ballots-number : goal.bounds-ballots-number
bounds-ballots-number g c =
    let graph = g.P.Prefix.graph c.args.p.now in
    let y = slice_index_or c.witnesses-witnesses.result.now c.loop-slot.slot 0 in
    let w : IsWitnessOf graph c.args.r y = witness_read graph c.args.r _ _ c.loop-slot.slot (g.met.P.Prefix.has_rounds c.args.p.now) c.witnesses-witnesses.ensures c.loop-slot-test.true in
    omega (arith, c.loop-slot.invariant.ballots.before.len, c.number-number.ensures, c.requires.voters.number y w.place, number-below graph y (length graph.rows) w.place w.witness)

pub loop-slot-preserved : goal.loop-slot-preserved
loop-slot-preserved g c =
    let graph = g.P.Prefix.graph c.args.p.now in
    let ws = c.witnesses-witnesses.result.now in
    let y = slice_index_or ws c.loop-slot.slot 0 in
    let w : IsWitnessOf graph c.args.r y = witness_read graph c.args.r _ _ c.loop-slot.slot (g.met.P.Prefix.has_rounds c.args.p.now) c.witnesses-witnesses.ensures c.loop-slot-test.true in
    let number_is : c.number-number.result ≡ number_of graph y = c.number-number.ensures ∙ c.requires.voters.number y w.place in
    record {
      len = c.mark.ensures.len ∙ c.loop-slot.invariant.len;
      ballots = round_more graph c.args.x c.args.r ws c.requires.first c.loop-slot.slot y 0 c.number-number.result c.loop-slot.ballots c.next_ballot-ballot.result
          c.loop-slot-test.true refl w number_is c.next_ballot-ballot.ensures c.loop-slot.invariant.ballots;
      bits = marked_more c.loop-slot.next c.mark.new.words c.loop-slot.slot c.next_ballot-ballot.result.vote (λ i. vote_in graph c.args.x (get_or ws i 0)) c.loop-slot.invariant.bits
          (ap (λ (b : Ballot). b.vote) c.next_ballot-ballot.ensures) c.mark.ensures.bits;
    }

pub returns-clause-ballots : goal.returns-clause-ballots
returns-clause-ballots g c =
    let graph = g.P.Prefix.graph c.args.p.now in
    let ws = c.witnesses-witnesses.result.now in
    round_done graph c.args.x c.args.r ws c.requires.first _ c.loop-slot.ballots (g.met.P.Prefix.has_rounds c.args.p.now) c.witnesses-witnesses.ensures
    (subst (λ (listed : List ℕ). HoldsRound graph c.args.x c.args.r listed c.loop-slot.ballots) (take_all c.loop-slot.slot ws c.loop-slot-test.false) c.loop-slot.invariant.ballots)
