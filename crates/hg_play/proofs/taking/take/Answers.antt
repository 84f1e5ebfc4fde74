use Rattle.hg_graph.specs.RowsWithRoom.{rows_of}
use Rattle.hg_play.proofs.CallLaws.{take_moved}
use Rattle.hg_play.proofs.taking.take.Goals as goal

pub returns : goal.returns
returns g c = take_moved c.args.party.now c.take_events.new.self c.args.k c.requires.nodes c.requires.place (rows_of c.args.events.now) c.take_events.result c.requires.handed c.take_events.ensures
