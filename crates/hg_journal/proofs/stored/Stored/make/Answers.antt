use Rattle.std.proofs.Common.{inl, inr, refl, sym, ◌∙◌, ap, subst}
use Rattle.hg_life.specs.Calls.{IsMaking}
use Rattle.hg_journal.proofs.StagingLaws.{is_same}
use Rattle.hg_journal.proofs.StoringLaws.{node_then, stops_idle, stops_stored}
use Rattle.hg_journal.proofs.stored.Stored.make.Goals as goal

pub returns-in_err-answer-clause-stops : goal.returns-in_err-answer-clause-stops
returns-in_err-answer-clause-stops g c =
    let same = ap (λ s. s.node) c.in_err-answer.ensures.memory in
    stops_idle g.V.Verifier.accepts (g.D.Disk.file c.args.disk.now) c.args.self.now c.requires.stored _
    (λ v is. (v, (inl refl, λ x there. is_same c.args.self.now.node x v (sym same ∙ there) is)))

pub returns-in_err-commit-clause-stops : goal.returns-in_err-commit-clause-stops
returns-in_err-commit-clause-stops g c =
    let accepts = g.V.Verifier.accepts in
    stops_stored accepts (g.D.Disk.file c.args.disk.now) c.args.self.now c.requires.stored (g.D.Disk.file c.commit.new.disk) c.stage_make.new.self _ c.stage_make.ensures.frame.written
    (λ v w is there.
    let made = c.in_ok-answer.ensures.ok v is in (
      inr (c.in_ok-answer.answer, subst (IsMaking accepts v c.args.others.now c.args.time c.args.payload.now c.in_ok-answer.answer) (is_same c.stage_make.new.self.node made.0 w made.1 there) made.2),
      node_then accepts g.D.Disk c.args.disk.now c.commit.new.disk c.stage_make.new.self c.commit.new.self c.commit.result c.commit.ensures.ok c.commit.ensures.never c.commit.ensures.frame w there,
    ))
    c.commit.ensures.stops

pub returns-clause-stops : goal.returns-clause-stops
returns-clause-stops g c =
    let accepts = g.V.Verifier.accepts in
    stops_stored accepts (g.D.Disk.file c.args.disk.now) c.args.self.now c.requires.stored (g.D.Disk.file c.commit.new.disk) c.stage_make.new.self _ c.stage_make.ensures.frame.written
    (λ v w is there.
    let made = c.in_ok-answer.ensures.ok v is in (
      inr (c.in_ok-answer.answer, subst (IsMaking accepts v c.args.others.now c.args.time c.args.payload.now c.in_ok-answer.answer) (is_same c.stage_make.new.self.node made.0 w made.1 there) made.2),
      node_then accepts g.D.Disk c.args.disk.now c.commit.new.disk c.stage_make.new.self c.commit.new.self c.commit.result c.commit.ensures.ok c.commit.ensures.never c.commit.ensures.frame w there,
    ))
    c.commit.ensures.stops

pub returns-clause-ok : goal.returns-clause-ok
returns-clause-ok g c v is =
    let made = c.in_ok-answer.ensures.ok v is in
    (made.0, c.in_ok-commit.ensures.ok ∙ made.1, made.2)
