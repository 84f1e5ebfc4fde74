use Rattle.hg_crowd.proofs.PartyLaws.{moves, seat_at, seats_after}
use Rattle.hg_crowd.proofs.party.Party.still_lacked.Goals as goal

pub still_lacked-requires : goal.still_lacked-requires
still_lacked-requires g c = (seat_at g.V.Verifier.accepts c.self.view_is c.self.invariant c.requires c.index-shared-k.is c.index_mut.ensures.value).of

pub invariant_of-self : goal.invariant_of-self
invariant_of-self g c = seats_after g.V.Verifier.accepts c.self.view_is c.self.invariant c.requires c.index-shared-k.is c.index_mut.ensures.value c.still_lacked.new.seat c.still_lacked.ensures.stays

pub returns : goal.returns
returns g c = moves g.V.Verifier.accepts c.self.view_is c.self.invariant c.requires c.index-shared-k.is c.index_mut.ensures.value c.still_lacked.new.seat (record { stays = c.still_lacked.ensures.stays; waits = c.still_lacked.ensures.waits; found = c.still_lacked.ensures.lacked })
