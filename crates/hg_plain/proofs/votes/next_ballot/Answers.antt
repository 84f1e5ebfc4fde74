use Rattle.std.proofs.Common.{arith, ap, ◌∙◌}
use Rattle.hg_model.specs.Stakes.{total}
use Rattle.hg_model.specs.Rounds.{is_witness}
use Rattle.hg_model.specs.Seeing.{sees}
use Rattle.hg_model.specs.Shape.{Shape}
use Rattle.hg_model.specs.Votes.{rounds_above}
use Rattle.hg_model.proofs.LinkLaws.{length-links}
use Rattle.hg_votes.proofs.BallotLaws.{coin_read, few_voters}
use Rattle.hg_plain.proofs.BallotLaws.{voters_before, ballot_next, ballot_far}
use Rattle.hg_plain.proofs.votes.next_ballot.Goals as goal

pub returns-then-above-eq1 : goal.returns-then-above-eq1
returns-then-above-eq1 c =
    let x = c.args.x in
    let y = c.args.y in
    ballot_next c.args.p.now x y c.rounds_above-above.result c.sees.result
    (c.rounds_above-above.ensures ∙ ap (λ (s : Shape). rounds_above s.members s.links x y) c.tables-sight.ensures) c.if-above-eq1.true
    (c.sees.ensures ∙ ap (λ (s : Shape). sees s.links y x) c.tables-sight.ensures)

pub count_votes-tally-requires-clause-known : goal.count_votes-tally-requires-clause-known
count_votes-tally-requires-clause-known c =
    rw c.requires.known.len (voters_before c.args.p.now c.args.y _ c.is_shaped.ensures.shaped.earlier c.requires.voters)

pub count_votes-tally-requires-clause-short : goal.count_votes-tally-requires-clause-short
count_votes-tally-requires-clause-short c = omega (arith, few_voters c.args.p.now c.args.y _ c.requires.voters, length-links c.args.p.now.rows)

pub count_votes-tally-requires-clause-stakes : goal.count_votes-tally-requires-clause-stakes
count_votes-tally-requires-clause-stakes c = omega (arith, c.row_stakes.ensures.len, c.requires.known.len)

pub returns : goal.returns
returns c =
    let x = c.args.x in
    let y = c.args.y in
    let p = c.args.p.now in
    ballot_far p x y c.is_shaped.ensures.shaped.earlier (rw (← length-links p.rows) c.requires.row) c.args.ballots.now c.requires.known c.row_stakes.result.now c.row_stakes.ensures
    c.args.voters.now c.rounds_above-above.result c.total.result c.coin.result _ c.count_votes-tally.result
    c.weigh-weighed.result c.is_witness.result c.requires.voters
    (c.rounds_above-above.ensures ∙ ap (λ (s : Shape). rounds_above s.members s.links x y) c.tables-sight.ensures) c.if-above-eq1.false
    (c.total.ensures.value ∙ ap (λ (s : Shape). total s.members) c.tables-sight.ensures) c.coin.ensures.value (coin_read p.rows y c.row.result.now c.row.ensures)
    c.count_votes-tally.ensures c.weigh-weighed.ensures (c.is_witness.ensures ∙ ap (λ (s : Shape). is_witness s.members s.links y) c.tables-sight.ensures)
