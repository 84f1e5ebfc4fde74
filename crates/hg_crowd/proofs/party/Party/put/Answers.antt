use Rattle.hg_crowd.proofs.PartyLaws.{moves, seat_at, seats_after}
use Rattle.hg_crowd.proofs.party.Party.put.Goals as goal

pub put-requires : goal.put-requires
put-requires g c = (seat_at g.V.Verifier.accepts c.self.view_is c.self.invariant c.requires c.index-shared-k.is c.index_mut.ensures.value).of

pub invariant_of-self : goal.invariant_of-self
invariant_of-self g c = seats_after g.V.Verifier.accepts c.self.view_is c.self.invariant c.requires c.index-shared-k.is c.index_mut.ensures.value c.put.new.seat c.put.ensures.stays

pub returns : goal.returns
returns g c = moves g.V.Verifier.accepts c.self.view_is c.self.invariant c.requires c.index-shared-k.is c.index_mut.ensures.value c.put.new.seat (record { stays = c.put.ensures.stays; ok = c.put.ensures.ok; err = c.put.ensures.err; free = c.put.ensures.free })
