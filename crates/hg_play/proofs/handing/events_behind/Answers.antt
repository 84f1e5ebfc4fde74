use Rattle.hg_play.proofs.CallLaws.{read_moved}
use Rattle.hg_play.proofs.handing.events_behind.Goals as goal

pub returns : goal.returns
returns g c = read_moved c.args.party.now c.events_from.new.self c.args.k c.requires.nodes c.requires.place _ c.events_from.ensures
