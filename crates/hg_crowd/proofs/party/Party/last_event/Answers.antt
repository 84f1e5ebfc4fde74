use Rattle.hg_crowd.proofs.PartyLaws.{moves, seat_at, seats_after}
use Rattle.hg_crowd.proofs.party.Party.last_event.Goals as goal

pub last_event-requires : goal.last_event-requires
last_event-requires g c = (seat_at g.V.Verifier.accepts c.self.view_is c.self.invariant c.requires c.index-shared-k.is c.index_mut.ensures.value).of

pub invariant_of-self : goal.invariant_of-self
invariant_of-self g c = seats_after g.V.Verifier.accepts c.self.view_is c.self.invariant c.requires c.index-shared-k.is c.index_mut.ensures.value c.last_event.new.seat c.last_event.ensures.stays

pub returns : goal.returns
returns g c = moves g.V.Verifier.accepts c.self.view_is c.self.invariant c.requires c.index-shared-k.is c.index_mut.ensures.value c.last_event.new.seat (record { stays = c.last_event.ensures.stays; waits = c.last_event.ensures.waits; found = c.last_event.ensures.event })
