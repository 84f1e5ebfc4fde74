use Rattle.std.proofs.Common.{arith, ap, sym, subst, ◌∙◌, slice_set, length-set}
use Rattle.hg_crowd.specs.Crowd.{AreSeats, Each}
use Rattle.hg_crowd.specs.Party.{PartyView}
use Rattle.hg_crowd.specs.Workers.{AllMark, Worked}
use Rattle.hg_crowd.proofs.CrowdLaws.{working_each, working_marked, working_none, working_one, working_seat, working_seats, working_worked}
use Rattle.hg_crowd.proofs.party.Party.work_each.Goals as goal

pub nodes-init : goal.nodes-init
nodes-init g c = record {
  same = λ i. c.self.inside.shared.now;
  working = working_none g.V.Verifier.accepts c.self.inside.shared.now c.args.share c.self.inside.seats.items c.self.invariant;
}

pub work-requires : goal.work-requires
work-requires g c =
    (working_seat g.V.Verifier.accepts c.self.inside.shared.now c.args.share c.self.inside.seats.items c.nodes.self-inside.seats.items c.nodes.i c.index-shared-i.result c.index_mut.result.now
    (sym c.self.invariant.count) c.nodes.invariant.working c.nodes-test.true c.index-shared-i.is c.index_mut.ensures.value).of

pub invariant_of-self-in_err-work : goal.invariant_of-self-in_err-work
invariant_of-self-in_err-work g c =
    let accepts = g.V.Verifier.accepts in
    let ps = c.self.inside.shared.now in
    let olds = c.self.inside.seats.items in
    let now = c.nodes.self-inside.seats.items in
    let new = slice_set now c.nodes.i c.work.new.seat in
    let so = c.nodes.invariant.working in
    let each = working_each accepts ps c.args.share olds now c.nodes.i c.index-shared-i.result c.index_mut.result.now c.work.new.seat
    (sym c.self.invariant.count) so c.nodes-test.true c.index-shared-i.is c.index_mut.ensures.value c.work.ensures.stays c.work.ensures.marks in
    let long = length-set now c.nodes.i c.work.new.seat in
    subst (λ l. AreSeats accepts l new) (sym c.nodes.invariant.same)
    (working_seats accepts ps c.args.share olds new (sym c.self.invariant.count) (long ∙ so.count) (λ k t low. each k t (omega (arith, low, long))))

pub returns-in_err-work-clause-places : goal.returns-in_err-work-clause-places
returns-in_err-work-clause-places g c = c.nodes.invariant.same ∙ ap (λ (v : PartyView g.row.V.Denot). v.places) c.self.view_is

pub returns-in_err-work-clause-worked : goal.returns-in_err-work-clause-worked
returns-in_err-work-clause-worked g c =
    let accepts = g.V.Verifier.accepts in
    let ps = c.self.inside.shared.now in
    let olds = c.self.inside.seats.items in
    let now = c.nodes.self-inside.seats.items in
    let new = slice_set now c.nodes.i c.work.new.seat in
    let so = c.nodes.invariant.working in
    let each = working_each accepts ps c.args.share olds now c.nodes.i c.index-shared-i.result c.index_mut.result.now c.work.new.seat
    (sym c.self.invariant.count) so c.nodes-test.true c.index-shared-i.is c.index_mut.ensures.value c.work.ensures.stays c.work.ensures.marks in
    let long = length-set now c.nodes.i c.work.new.seat in
    subst (λ (v : PartyView g.row.V.Denot). Each Worked v.seats new) c.self.view_is
    (working_worked accepts ps c.args.share olds new (long ∙ so.count) (λ k t low. each k t (omega (arith, low, long))))

pub nodes-preserved : goal.nodes-preserved
nodes-preserved g c = record {
  same = c.nodes.invariant.same;
  working = working_one g.V.Verifier.accepts c.self.inside.shared.now c.args.share c.self.inside.seats.items c.nodes.self-inside.seats.items c.nodes.i c.index-shared-i.result c.index_mut.result.now c.work.new.seat
      (sym c.self.invariant.count) c.nodes.invariant.working c.nodes-test.true c.index-shared-i.is c.index_mut.ensures.value c.work.ensures.stays c.work.ensures.marks (c.in_ok-work.ensures.all (omega arith));
}

pub invariant_of-self : goal.invariant_of-self
invariant_of-self g c =
    let accepts = g.V.Verifier.accepts in
    let ps = c.self.inside.shared.now in
    let now = c.nodes.self-inside.seats.items in
    let so = c.nodes.invariant.working in
    subst (λ l. AreSeats accepts l now) (sym c.nodes.invariant.same)
    (working_seats accepts ps c.args.share c.self.inside.seats.items now (sym c.self.invariant.count) so.count so.each)

pub returns-clause-places : goal.returns-clause-places
returns-clause-places g c = c.nodes.invariant.same ∙ ap (λ (v : PartyView g.row.V.Denot). v.places) c.self.view_is

pub returns-clause-worked : goal.returns-clause-worked
returns-clause-worked g c =
    let now = c.nodes.self-inside.seats.items in
    let so = c.nodes.invariant.working in
    subst (λ (v : PartyView g.row.V.Denot). Each Worked v.seats now) c.self.view_is
    (working_worked g.V.Verifier.accepts c.self.inside.shared.now c.args.share c.self.inside.seats.items now so.count so.each)

pub returns-clause-marked : goal.returns-clause-marked
returns-clause-marked g c =
    let now = c.nodes.self-inside.seats.items in
    subst (λ (v : PartyView g.row.V.Denot). AllMark v.places c.args.share v.seats now) c.self.view_is
    (working_marked g.V.Verifier.accepts c.self.inside.shared.now c.args.share c.self.inside.seats.items now c.nodes.i (sym c.self.invariant.count) c.nodes.invariant.working (omega (arith, c.nodes-test.false)))
