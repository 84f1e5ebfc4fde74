use Rattle.std.proofs.Common.{inl, Some, ◌≡◌, ◌∙◌}
use Rattle.hg_io.proofs.Going.{stays_on}
use Rattle.hg_life.specs.NodeView.{start_of}
use Rattle.hg_journal.specs.Journal.{journal}
use Rattle.hg_journal.proofs.SyncLaws.{synced_then}
use Rattle.hg_journal.proofs.stored.Stored.open.Goals as goal

pub returns-clause-synced : goal.returns-clause-synced
returns-clause-synced g c =
    inl (λ bytes told v keeps.
    let start = start_of c.args.members.now c.args.own c.args.keys in
    let stays = stays_on c.start.ensures.stays c.sync.ensures.stays in
    let now = stays.reads ∙ told in
    synced_then (λ left. journal g.V.Verifier.accepts start left ≡ Some v) bytes stays (g.met.D.Disk.sound c.sync.new.self) c.in_ok-sync.ensures.synced now keeps (c.open_synced.ensures.leaves bytes now v keeps))
