use Rattle.hg_crowd.proofs.PartyLaws.{moves, seat_at, seats_after}
use Rattle.hg_crowd.proofs.party.Party.events_from.Goals as goal

pub events_from-requires : goal.events_from-requires
events_from-requires g c = (seat_at g.V.Verifier.accepts c.self.view_is c.self.invariant c.requires c.index-shared-k.is c.index_mut.ensures.value).of

pub invariant_of-self : goal.invariant_of-self
invariant_of-self g c = seats_after g.V.Verifier.accepts c.self.view_is c.self.invariant c.requires c.index-shared-k.is c.index_mut.ensures.value c.events_from.new.seat c.events_from.ensures.stays

pub returns : goal.returns
returns g c = moves g.V.Verifier.accepts c.self.view_is c.self.invariant c.requires c.index-shared-k.is c.index_mut.ensures.value c.events_from.new.seat (record { stays = c.events_from.ensures.stays; waits = c.events_from.ensures.waits; found = c.events_from.ensures.parcel })
