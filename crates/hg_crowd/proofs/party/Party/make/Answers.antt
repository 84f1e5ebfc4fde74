use Rattle.hg_crowd.proofs.PartyLaws.{moves, seat_at, seats_after}
use Rattle.hg_crowd.proofs.party.Party.make.Goals as goal

pub make-requires-clause-seat : goal.make-requires-clause-seat
make-requires-clause-seat g c = (seat_at g.V.Verifier.accepts c.self.view_is c.self.invariant c.requires.place c.index-shared-k.is c.index_mut.ensures.value).of

pub invariant_of-self : goal.invariant_of-self
invariant_of-self g c = seats_after g.V.Verifier.accepts c.self.view_is c.self.invariant c.requires.place c.index-shared-k.is c.index_mut.ensures.value c.make.new.seat c.make.ensures.stays

pub returns : goal.returns
returns g c = moves g.V.Verifier.accepts c.self.view_is c.self.invariant c.requires.place c.index-shared-k.is c.index_mut.ensures.value c.make.new.seat (record { stays = c.make.ensures.stays; ok = c.make.ensures.ok; err = c.make.ensures.err; free = c.make.ensures.free })
