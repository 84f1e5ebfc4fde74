use Rattle.std.proofs.Common.{subst, sym}
use Rattle.hg_graph.specs.RowsWithRoom.{rows_of}
use Rattle.hg_board.specs.Seats.{SharedNode}
use Rattle.hg_board.specs.Taking.{AreSignedFor}
use Rattle.hg_crowd.specs.Party.{AreSignedAt, PartyView}
use Rattle.hg_crowd.proofs.PartyLaws.{moves, seat_at, seats_after}
use Rattle.hg_crowd.proofs.party.Party.take_events.Goals as goal

pub take_events-requires-clause-seat : goal.take_events-requires-clause-seat
take_events-requires-clause-seat g c = (seat_at g.V.Verifier.accepts c.self.view_is c.self.invariant c.requires.place c.index-shared-k.is c.index_mut.ensures.value).of

pub invariant_of-self : goal.invariant_of-self
invariant_of-self g c = seats_after g.V.Verifier.accepts c.self.view_is c.self.invariant c.requires.place c.index-shared-k.is c.index_mut.ensures.value c.take_events.new.seat c.take_events.ensures.stays

pub returns : goal.returns
returns g c = moves g.V.Verifier.accepts c.self.view_is c.self.invariant c.requires.place c.index-shared-k.is c.index_mut.ensures.value c.take_events.new.seat (record { stays = c.take_events.ensures.stays; ok = c.take_events.ensures.ok; err = c.take_events.ensures.err })

pub take_events-requires-clause-signed : goal.take_events-requires-clause-signed
take_events-requires-clause-signed g c =
    subst (λ (p : SharedNode g.row.V.Denot). AreSignedFor g.V.Verifier.accepts p.start.start (rows_of c.args.events.now)) (sym c.index-shared-k.is)
    (subst (λ (v : PartyView g.row.V.Denot). AreSignedAt g.V.Verifier.accepts v.places c.args.k (rows_of c.args.events.now)) (sym c.self.view_is) c.requires.signed c.index-shared-k.result)
