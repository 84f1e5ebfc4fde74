use Rattle.std.proofs.Common.{◌∙◌, ap, sym, arith, refl}
use Rattle.std.proofs.lemmas.List.{take_all}
use Rattle.std.specs.Prelude.{filter, not}
use Rattle.hg_model.specs.Prefix.{links_of}
use Rattle.hg_order.specs.Famous.{all_have}
use Rattle.hg_kept.proofs.StepLaws.{parted_none, parted_passes, parted_fails}
use Rattle.hg_kept.proofs.pending.move_received.Goals as goal
use Rattle.hg_kept.proofs.pending.move_received.Goals.{then-received_below, else-received_below}

pub loop-i-init : goal.loop-i-init
loop-i-init g c = rw c.requires.none (parted_none _ _, refl)

pub received_below-requires-clause-place : goal.received_below-requires-clause-place
received_below-requires-clause-place g c = rw (c.loop-i.invariant.0.later c.loop-i.i (omega arith)) (c.requires.places c.loop-i.i 0 c.loop-i-test.true)

pub push_reserved-requires : goal.push_reserved-requires
push_reserved-requires g c = omega (arith, c.loop-i.invariant.0.few, c.loop-i.invariant.1, c.requires.room, c.loop-i-test.true)

pub bounds-places-kept : goal.bounds-places-kept
bounds-places-kept g c = omega (arith, c.loop-i.invariant.0.low, c.loop-i.auto.places)

pub loop-i-preserved : goal.loop-i-preserved
loop-i-preserved g c = elim c.if-received_below.branch [
  | then-received_below w ↦ rw (w.places-is, w.kept-is, w.fresh-is, w.push_reserved.ensures.items) (
    parted_passes _ c.loop-i.i _ _ _ _ _ c.loop-i.invariant.0 c.loop-i-test.true refl (sym c.received_below.ensures ∙ w.if-received_below.true),
    w.push_reserved.ensures.capacity ∙ c.loop-i.invariant.1,
  )
  | else-received_below w ↦ rw (w.places-is, w.kept-is, w.fresh-is) (
    parted_fails _ c.loop-i.i _ _ _ _ _ c.loop-i.invariant.0 c.loop-i-test.true refl (sym c.received_below.ensures ∙ w.if-received_below.false),
    c.loop-i.invariant.1,
  )
]

pub returns-clause-fresh : goal.returns-clause-fresh
returns-clause-fresh g c = c.loop-i.invariant.0.passed ∙ ap (filter (all_have (links_of (g.P.Prefix.graph c.args.p.now)) c.args.famous.now)) (take_all c.loop-i.i c.args.places.now (omega (arith, c.loop-i-test.false)))

pub returns-clause-others : goal.returns-clause-others
returns-clause-others g c = c.loop-i.invariant.0.others ∙ ap (filter (λ x. not (all_have (links_of (g.P.Prefix.graph c.args.p.now)) c.args.famous.now x))) (take_all c.loop-i.i c.args.places.now (omega (arith, c.loop-i-test.false)))
