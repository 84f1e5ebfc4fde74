use Rattle.hg_io.proofs.Going.{goes_on, nothing_else, synced_torn, weaker}
use Rattle.hg_io.proofs.putting.put_down.Goals as goal

pub returns-in_err-write-clause-torn : goal.returns-in_err-write-clause-torn
returns-in_err-write-clause-torn g c bytes told = synced_torn (c.requires.synced bytes told) c.write.ensures.torn

pub returns-in_err-write-clause-leaves : goal.returns-in_err-write-clause-leaves
returns-in_err-write-clause-leaves g c bytes told =
    weaker c.write.ensures.leaves (synced_torn (c.requires.synced bytes told) c.write.ensures.torn)

pub returns-in_err-sync-clause-torn : goal.returns-in_err-sync-clause-torn
returns-in_err-sync-clause-torn g c bytes told left may =
    synced_torn (c.requires.synced bytes told) c.write.ensures.torn left (c.sync.ensures.stays.fewer left may)

pub returns-in_err-sync-clause-leaves : goal.returns-in_err-sync-clause-leaves
returns-in_err-sync-clause-leaves g c bytes told =
    goes_on (weaker c.write.ensures.leaves (synced_torn (c.requires.synced bytes told) c.write.ensures.torn)) (nothing_else _ c.sync.ensures.stays)

pub returns-clause-torn : goal.returns-clause-torn
returns-clause-torn g c bytes told left may =
    synced_torn (c.requires.synced bytes told) c.write.ensures.torn left (c.sync.ensures.stays.fewer left may)

pub returns-clause-leaves : goal.returns-clause-leaves
returns-clause-leaves g c bytes told =
    goes_on (weaker c.write.ensures.leaves (synced_torn (c.requires.synced bytes told) c.write.ensures.torn)) (nothing_else _ c.sync.ensures.stays)
