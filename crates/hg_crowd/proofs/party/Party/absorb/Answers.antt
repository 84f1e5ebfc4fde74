use Rattle.std.proofs.Common.{rules, arith, ap, ◌∙◌, sym, subst}
use Rattle.hg_crowd.specs.Crowd.{AreSeats}
use Rattle.hg_crowd.specs.Party.{PartyView}
use Rattle.hg_crowd.specs.Workers.{AllAbsorb}
use Rattle.hg_crowd.proofs.CrowdLaws.{Absorbing, absorb_asks, absorb_done, absorb_none, absorb_one, seats_absorbed}
use Rattle.hg_crowd.proofs.PartyLaws.{seats_beside}
use Rattle.hg_crowd.proofs.party.Party.absorb.Goals as goal

pub nodes-init : goal.nodes-init
nodes-init g c = record {
  same = λ i. c.self.inside.shared.now;
  absorbing = absorb_none g.V.Verifier.accepts c.self.inside.shared.now c.self.inside.seats.items c.other.inside.seats.items c.self.invariant
      (seats_beside g.V.Verifier.accepts c.other.view_is c.self.view_is c.requires c.other.invariant);
}

pub absorb-requires-clause-seat : goal.absorb-requires-clause-seat
absorb-requires-clause-seat g c =
    let accepts = g.V.Verifier.accepts in
    let places = c.self.inside.shared.now in
    let olds = c.self.inside.seats.items in
    let others = c.other.inside.seats.items in
    let now = c.nodes.self-inside.seats.items in
    let so = subst (Absorbing accepts places olds others now) c.in-Some.ensures.items c.nodes.invariant.absorbing in
    (absorb_asks accepts places olds others now c.pop.new.self.items c.in-Some.seat c.index_mut.result.now c.index-shared-i.result c.len-i.result
    c.self.invariant (seats_beside accepts c.other.view_is c.self.view_is c.requires c.other.invariant) so (omega (arith, c.len-i.ensures, c.pop.new.self.ok)) c.index-shared-i.is c.index_mut.ensures.value).0

pub absorb-requires-clause-other : goal.absorb-requires-clause-other
absorb-requires-clause-other g c =
    let accepts = g.V.Verifier.accepts in
    let places = c.self.inside.shared.now in
    let olds = c.self.inside.seats.items in
    let others = c.other.inside.seats.items in
    let now = c.nodes.self-inside.seats.items in
    let so = subst (Absorbing accepts places olds others now) c.in-Some.ensures.items c.nodes.invariant.absorbing in
    (absorb_asks accepts places olds others now c.pop.new.self.items c.in-Some.seat c.index_mut.result.now c.index-shared-i.result c.len-i.result
    c.self.invariant (seats_beside accepts c.other.view_is c.self.view_is c.requires c.other.invariant) so (omega (arith, c.len-i.ensures, c.pop.new.self.ok)) c.index-shared-i.is c.index_mut.ensures.value).1

pub nodes-preserved : goal.nodes-preserved
nodes-preserved g c =
    let accepts = g.V.Verifier.accepts in
    let places = c.self.inside.shared.now in
    let olds = c.self.inside.seats.items in
    let others = c.other.inside.seats.items in
    let now = c.nodes.self-inside.seats.items in
    let so = subst (Absorbing accepts places olds others now) c.in-Some.ensures.items c.nodes.invariant.absorbing in
    record {
      same = c.nodes.invariant.same;
      absorbing = absorb_one accepts places olds others now c.pop.new.self.items c.in-Some.seat c.index_mut.result.now c.absorb.new.seat c.index-shared-i.result c.len-i.result
          c.self.invariant so (omega (arith, c.len-i.ensures, c.pop.new.self.ok)) c.index-shared-i.is c.index_mut.ensures.value c.absorb.ensures;
    }

pub invariant_of-self : goal.invariant_of-self
invariant_of-self g c =
    let accepts = g.V.Verifier.accepts in
    let places = c.self.inside.shared.now in
    let olds = c.self.inside.seats.items in
    let others = c.other.inside.seats.items in
    let now = c.nodes.self-inside.seats.items in
    let done = absorb_done accepts places olds others now c.nodes.others.items (search rules) c.nodes.invariant.absorbing in
    subst (λ l. AreSeats accepts l now) (sym c.nodes.invariant.same) (seats_absorbed accepts places olds others now c.self.invariant done)

pub returns-clause-places : goal.returns-clause-places
returns-clause-places g c = c.nodes.invariant.same ∙ ap (λ (v : PartyView g.row.V.Denot). v.places) c.self.view_is

pub returns-clause-seats : goal.returns-clause-seats
returns-clause-seats g c =
    let accepts = g.V.Verifier.accepts in
    let places = c.self.inside.shared.now in
    let olds = c.self.inside.seats.items in
    let others = c.other.inside.seats.items in
    let now = c.nodes.self-inside.seats.items in
    let done = absorb_done accepts places olds others now c.nodes.others.items (search rules) c.nodes.invariant.absorbing in
    subst (λ (v : PartyView g.row.V.Denot). AllAbsorb accepts v.places v.seats c.args.other.seats now) c.self.view_is
    (subst (λ (v : PartyView g.row.V.Denot). AllAbsorb accepts places olds v.seats now) c.other.view_is done)
