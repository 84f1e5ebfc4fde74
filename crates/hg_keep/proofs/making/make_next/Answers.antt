use Rattle.std.proofs.Common.{inl, Some, refl, sym, subst}
use Rattle.hg_keep.specs.Keeping.{IsMadeSome, TurnOf}
use Rattle.hg_keep.proofs.UnderWayLaws.{came_turn, step_stops}
use Rattle.hg_keep.proofs.WayLaws.{stops_still}
use Rattle.hg_keep.proofs.making.make_next.Goals as goal

pub returns-in_err-answer-clause-stops : goal.returns-in_err-answer-clause-stops
returns-in_err-answer-clause-stops g c =
    let accepts = g.V.Verifier.accepts in
    stops_still accepts (IsMadeSome accepts (Some c.args.time)) (λ v. inl refl) (g.D.Disk.file c.args.disk.now) c.args.stored.now c.requires.stored

pub returns-in_err-commit-clause-stops : goal.returns-in_err-commit-clause-stops
returns-in_err-commit-clause-stops g c =
    let accepts = g.V.Verifier.accepts in
    step_stops accepts (IsMadeSome accepts (Some c.args.time)) (λ v. inl refl) (g.D.Disk.file c.args.disk.now) (g.D.Disk.file c.commit.new.disk) c.args.stored.now c.stage_next.new.stored c.requires.stored
    c.stage_next.ensures.frame.written (came_turn accepts c.args.time c.args.stored.now.node c.stage_next.new.stored.node c.in_ok-answer.answer c.in_ok-answer.ensures.turn) c.commit.ensures.stops

pub returns-clause-turn : goal.returns-clause-turn
returns-clause-turn g c = subst (λ node. TurnOf g.V.Verifier.accepts c.args.time c.args.stored.now.node node c.in_ok-answer.answer) (sym c.in_ok-commit.ensures.ok) c.in_ok-answer.ensures.turn

pub returns-clause-stops : goal.returns-clause-stops
returns-clause-stops g c =
    let accepts = g.V.Verifier.accepts in
    step_stops accepts (IsMadeSome accepts (Some c.args.time)) (λ v. inl refl) (g.D.Disk.file c.args.disk.now) (g.D.Disk.file c.commit.new.disk) c.args.stored.now c.stage_next.new.stored c.requires.stored
    c.stage_next.ensures.frame.written (came_turn accepts c.args.time c.args.stored.now.node c.stage_next.new.stored.node c.in_ok-answer.answer c.in_ok-answer.ensures.turn) c.commit.ensures.stops
