use Rattle.hg_play.specs.Through.{seen_shared}
use Rattle.hg_play.proofs.PartLaws.{last_told}
use Rattle.hg_play.proofs.shared.SharedNodesNodes.last_bytes.Goals as goal

pub returns-clause-told : goal.returns-clause-told
returns-clause-told g c =
    last_told (seen_shared c.args.self.now) (seen_shared c.last_of.new.self) c.args.member c.in_ok-event.event c.bytes_of_event.result c.bytes_of_event.ensures c.in_ok-event.ensures.told
