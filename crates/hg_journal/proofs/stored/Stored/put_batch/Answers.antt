use Rattle.std.proofs.Common.{◌∙◌, subst, sym}
use Rattle.hg_journal.specs.Staging.{PutsFront}
use Rattle.hg_journal.proofs.PutLaws.{puts_come}
use Rattle.hg_journal.proofs.StoringLaws.{node_then, stops_stored}
use Rattle.hg_journal.proofs.stored.Stored.put_batch.Goals as goal

pub returns-in_err-commit-clause-stops : goal.returns-in_err-commit-clause-stops
returns-in_err-commit-clause-stops g c =
    let accepts = g.V.Verifier.accepts in
    let puts = c.stage_puts-staged.ensures.puts in
    stops_stored accepts (g.D.Disk.file c.args.disk.now) c.args.self.now c.requires.stored (g.D.Disk.file c.commit.new.disk) c.stage_puts-staged.new.self _ c.stage_puts-staged.ensures.frame.written
    (λ v w is there. (
      puts_come accepts c.args.self.now.node c.stage_puts-staged.new.self.node c.args.events.now c.stage_puts-staged.new.answers.items puts v w is there,
      node_then accepts g.D.Disk c.args.disk.now c.commit.new.disk c.stage_puts-staged.new.self c.commit.new.self c.commit.result c.commit.ensures.ok c.commit.ensures.never c.commit.ensures.frame w there,
    ))
    c.commit.ensures.stops

pub returns-clause-stops : goal.returns-clause-stops
returns-clause-stops g c =
    let accepts = g.V.Verifier.accepts in
    let puts = c.stage_puts-staged.ensures.puts in
    stops_stored accepts (g.D.Disk.file c.args.disk.now) c.args.self.now c.requires.stored (g.D.Disk.file c.commit.new.disk) c.stage_puts-staged.new.self _ c.stage_puts-staged.ensures.frame.written
    (λ v w is there. (
      puts_come accepts c.args.self.now.node c.stage_puts-staged.new.self.node c.args.events.now c.stage_puts-staged.new.answers.items puts v w is there,
      node_then accepts g.D.Disk c.args.disk.now c.commit.new.disk c.stage_puts-staged.new.self c.commit.new.self c.commit.result c.commit.ensures.ok c.commit.ensures.never c.commit.ensures.frame w there,
    ))
    c.commit.ensures.stops

pub returns-clause-puts : goal.returns-clause-puts
returns-clause-puts g c unless =
    subst (λ o. PutsFront g.V.Verifier.accepts c.args.self.now.node c.args.events.now c.stage_puts-staged.new.answers.items o) (sym c.in_ok-commit.ensures.ok) c.stage_puts-staged.ensures.puts

pub returns-clause-free : goal.returns-clause-free
returns-clause-free g c memory v is = c.stage_puts-staged.ensures.free memory v (sym c.in_ok-commit.ensures.ok ∙ is)
