use Rattle.std.proofs.Common.{inl, refl}
use Rattle.hg_keep.specs.Keeping.{IsSettledSome}
use Rattle.hg_keep.proofs.UnderWayLaws.{came_marks, step_stops}
use Rattle.hg_keep.proofs.WayLaws.{stops_still}
use Rattle.hg_keep.proofs.settling.settle.Goals as goal

pub returns-in_err-stage_settled-clause-stops : goal.returns-in_err-stage_settled-clause-stops
returns-in_err-stage_settled-clause-stops g c = stops_still g.V.Verifier.accepts IsSettledSome (λ v. inl refl) (g.D.Disk.file c.args.disk.now) c.args.stored.now c.requires.stored

pub returns-clause-stops : goal.returns-clause-stops
returns-clause-stops g c =
    let accepts = g.V.Verifier.accepts in
    step_stops accepts IsSettledSome (λ v. inl refl) (g.D.Disk.file c.args.disk.now) (g.D.Disk.file c.commit.new.disk) c.args.stored.now c.stage_settled.new.stored c.requires.stored
    c.stage_settled.ensures.frame.written (came_marks accepts c.args.stored.now.node c.stage_settled.new.stored.node c.in_ok-stage_settled.ensures.settles) c.commit.ensures.stops
