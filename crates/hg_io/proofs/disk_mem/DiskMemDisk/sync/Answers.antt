use Rattle.std.proofs.Common.{rules, ◌≡◌, ◌++◌, ◌∷◌, [], subst, sym}
use Rattle.hg_io.specs.DiskState.{DiskState, after_ok, file_of}
use Rattle.hg_io.specs.FileView.{IsSynced, Stays}
use Rattle.hg_io.specs.Pending.DiskCall.{Synced}
use Rattle.hg_io.proofs.Tearing.{sync_stays, sync_synced}
use Rattle.hg_io.proofs.disk_mem.DiskMemDisk.sync.Goals as goal

pub returns-clause-synced : goal.returns-clause-synced
returns-clause-synced c =
    let is : c.keep.new.self ≡ record (after_ok c.args.self.now) { done = c.args.self.now.done ++ Synced ∷ [] } = search rules in
    subst (λ (d : DiskState). IsSynced (file_of d)) (sym is) (sync_synced c.args.self.now)

pub returns-clause-stays : goal.returns-clause-stays
returns-clause-stays c =
    let is : c.keep.new.self ≡ record (after_ok c.args.self.now) { done = c.args.self.now.done ++ Synced ∷ [] } = search rules in
    subst (λ (d : DiskState). Stays (file_of c.args.self.now) (file_of d)) (sym is) (sync_stays c.args.self.now)
