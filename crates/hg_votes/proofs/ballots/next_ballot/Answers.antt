use Rattle.std.proofs.Common.{◌∙◌, ◌<◌, ◌-◌, ◌*◌, ℕ, List, length, sym, ap, ap₂, subst, refl, arith}
use Rattle.hg_model.specs.Places.{IsEarlier}
use Rattle.hg_model.specs.Stakes.{total}
use Rattle.hg_model.specs.Links.{parents}
use Rattle.hg_model.specs.Seeing.{sees}
use Rattle.hg_model.specs.Shape.{Shape}
use Rattle.hg_model.specs.Prefix.{links_of}
use Rattle.hg_model.specs.GraphWords.{round_in}
use Rattle.hg_votes.specs.Tallies.{tally_in}
use Rattle.hg_votes.proofs.SlotLaws.{within_slots}
use Rattle.hg_votes.proofs.VoterLaws.{witnesses_few, witnesses_there}
use Rattle.hg_votes.proofs.BallotLaws.{coin_read, ballot_next, ballot_far}
use Rattle.hg_votes.proofs.ballots.next_ballot.Goals as goal

pub returns-then-above-eq1 : goal.returns-then-above-eq1
returns-then-above-eq1 g c =
    ballot_next (g.P.Prefix.graph c.args.p.now) c.args.x c.args.y c.requires.counted c.args.above c.sees.result c.requires.above
    c.if-above-eq1.true (c.sees.ensures ∙ ap (λ (s : Shape). sees s.links c.args.y c.args.x) (g.met.P.Prefix.sees_graph c.args.p.now))

pub weigh_slots-tally-requires-clause-short : goal.weigh_slots-tally-requires-clause-short
weigh_slots-tally-requires-clause-short g c =
    let graph = g.P.Prefix.graph c.args.p.now in
    omega (arith, ap (λ (ws : List ℕ). length ws) c.requires.rows, witnesses_few graph (round_in graph c.args.y - 1) _ _ refl refl, c.requires.short)

pub weigh_slots-tally-requires-clause-places : goal.weigh_slots-tally-requires-clause-places
weigh_slots-tally-requires-clause-places g c =
    let graph = g.P.Prefix.graph c.args.p.now in
    witnesses_there graph.members (links_of graph) (round_in graph c.args.y - 1) _ _ _ refl c.requires.rows (ap (λ (s : Shape). length s.links) (sym (g.met.P.Prefix.sees_graph c.args.p.now)))

pub weigh_slots-tally-requires-clause-within : goal.weigh_slots-tally-requires-clause-within
weigh_slots-tally-requires-clause-within g c = λ i h.
    subst (λ (ws : List ℕ). i < length ws) (sym c.requires.rows) (within_slots _ _ _ c.requires.voters.slots i h)

pub returns : goal.returns
returns g c =
    let graph = g.P.Prefix.graph c.args.p.now in
    let shaped = g.met.P.Prefix.sees_graph c.args.p.now in
    let tally = c.weigh_slots-tally.ensures ∙ ap₂ (λ (s : Shape) (rows : List ℕ). tally_in s (64 * length c.args.voters.now) rows c.args.voters.now c.args.voted.yes.now) shaped c.requires.rows in
    ballot_far graph c.args.x c.args.y c.requires.counted (subst (λ (s : Shape). IsEarlier (parents s.links)) shaped c.total.ensures.shaped.earlier)
    (λ one. c.if-above-eq1.false (c.requires.above ∙ one)) c.args.voters.now c.args.voted.yes.now c.requires.voters c.requires.before c.args.above c.total.result graph.coin
    _ c.weigh_slots-tally.result c.weigh_where.result c.requires.above (c.total.ensures.value ∙ ap (λ (s : Shape). total s.members) shaped) refl
    (coin_read graph.rows c.args.y c.row.result.now c.row.ensures) tally (rw c.requires.normal at c.weigh_where.ensures)
