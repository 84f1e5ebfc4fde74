use Rattle.std.proofs.Common.{refl}
use Rattle.hg_journal.specs.Stored.{after_marks}
use Rattle.hg_journal.proofs.StagingLaws.{is_same}
use Rattle.hg_journal.proofs.StoringLaws.{stops_idle, stops_stored}
use Rattle.hg_journal.proofs.stored.Stored.remark.Goals as goal

pub returns-in_err-count-clause-stops : goal.returns-in_err-count-clause-stops
returns-in_err-count-clause-stops g c =
    stops_idle g.V.Verifier.accepts (g.D.Disk.file c.args.disk.now) c.args.self.now c.requires.stored _ (λ v is. (after_marks v c.args.len c.args.share, refl))

pub returns-in_err-commit-clause-stops : goal.returns-in_err-commit-clause-stops
returns-in_err-commit-clause-stops g c =
    stops_stored g.V.Verifier.accepts (g.D.Disk.file c.args.disk.now) c.args.self.now c.requires.stored (g.D.Disk.file c.commit.new.disk) c.stage_remark.new.self _ c.stage_remark.ensures.frame.written
    (λ v w is there. is_same c.stage_remark.new.self.node w (after_marks v c.args.len c.args.share) there (c.in_ok-count.ensures.ok v is)) c.commit.ensures.stops

pub returns-clause-stops : goal.returns-clause-stops
returns-clause-stops g c =
    stops_stored g.V.Verifier.accepts (g.D.Disk.file c.args.disk.now) c.args.self.now c.requires.stored (g.D.Disk.file c.commit.new.disk) c.stage_remark.new.self _ c.stage_remark.ensures.frame.written
    (λ v w is there. is_same c.stage_remark.new.self.node w (after_marks v c.args.len c.args.share) there (c.in_ok-count.ensures.ok v is)) c.commit.ensures.stops
