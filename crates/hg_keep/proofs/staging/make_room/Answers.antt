use Rattle.hg_keep.proofs.UnderWayLaws.{stops_idle}
use Rattle.hg_keep.proofs.staging.make_room.Goals as goal

pub returns-else-is_full-clause-stops : goal.returns-else-is_full-clause-stops
returns-else-is_full-clause-stops g c = stops_idle g.V.Verifier.accepts (g.D.Disk.file c.args.disk.now) c.args.stored.now c.requires.written c.requires.there
