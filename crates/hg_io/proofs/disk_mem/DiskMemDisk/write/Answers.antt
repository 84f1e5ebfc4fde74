use Rattle.std.proofs.Common.{rules, ◌≡◌, ◌+◌, ◌++◌, ◌∷◌, [], length, ap, subst, sym, ◌∙◌}
use Rattle.hg_io.specs.DiskState.{DiskState, after_ok, file_of, reads}
use Rattle.hg_io.specs.FileView.{TornFrom}
use Rattle.hg_io.specs.Pending.DiskCall.{Wrote}
use Rattle.hg_io.proofs.Tearing.{wrote_reads, wrote_torn}
use Rattle.hg_io.proofs.disk_mem.DiskMemDisk.write.Goals as goal

pub returns-clause-written : goal.returns-clause-written
returns-clause-written c =
    let is : c.put.new.self ≡ record (after_ok c.args.self.now) { done = c.args.self.now.done ++ Wrote c.args.at c.args.piece.now ∷ []; used = c.args.self.now.used + length c.args.piece.now } = search rules in
    ap reads is ∙ wrote_reads c.args.self.now c.args.at c.args.piece.now

pub returns-clause-torn : goal.returns-clause-torn
returns-clause-torn c =
    let is : c.put.new.self ≡ record (after_ok c.args.self.now) { done = c.args.self.now.done ++ Wrote c.args.at c.args.piece.now ∷ []; used = c.args.self.now.used + length c.args.piece.now } = search rules in
    subst (λ (d : DiskState). TornFrom c.args.at (length c.args.piece.now) (file_of c.args.self.now) (file_of d)) (sym is)
    (wrote_torn c.args.self.now c.args.at c.args.piece.now c.requires.within)
