use Rattle.std.proofs.Common.{refl}
use Rattle.hg_node.specs.Restore.{after_restore}
use Rattle.hg_journal.proofs.StagingLaws.{is_same}
use Rattle.hg_journal.proofs.StoringLaws.{stops_idle, stops_stored}
use Rattle.hg_journal.proofs.stored.Stored.restore.Goals as goal

pub returns-in_err-answer-clause-stops : goal.returns-in_err-answer-clause-stops
returns-in_err-answer-clause-stops g c =
    let accepts = g.V.Verifier.accepts in
    stops_idle accepts (g.D.Disk.file c.args.disk.now) c.args.self.now c.requires.stored _ (λ v is. (after_restore accepts v c.args.bytes.now, refl))

pub returns-in_err-commit-clause-stops : goal.returns-in_err-commit-clause-stops
returns-in_err-commit-clause-stops g c =
    let accepts = g.V.Verifier.accepts in
    stops_stored accepts (g.D.Disk.file c.args.disk.now) c.args.self.now c.requires.stored (g.D.Disk.file c.commit.new.disk) c.stage_restore.new.self _ c.stage_restore.ensures.frame.written
    (λ v w is there. is_same c.stage_restore.new.self.node w (after_restore accepts v c.args.bytes.now) there (c.in_ok-answer.ensures.ok v is)) c.commit.ensures.stops

pub returns-clause-stops : goal.returns-clause-stops
returns-clause-stops g c =
    let accepts = g.V.Verifier.accepts in
    stops_stored accepts (g.D.Disk.file c.args.disk.now) c.args.self.now c.requires.stored (g.D.Disk.file c.commit.new.disk) c.stage_restore.new.self _ c.stage_restore.ensures.frame.written
    (λ v w is there. is_same c.stage_restore.new.self.node w (after_restore accepts v c.args.bytes.now) there (c.in_ok-answer.ensures.ok v is)) c.commit.ensures.stops
