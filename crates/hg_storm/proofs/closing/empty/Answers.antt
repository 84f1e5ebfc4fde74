use Rattle.hg_storm.proofs.CloseLaws.{emptied_port, empties}
use Rattle.hg_storm.proofs.closing.empty.Goals as goal

pub returns-clause-ok : goal.returns-clause-ok
returns-clause-ok g c =
    empties c.args.mailbox.now c.args.port.now c.count.new.port c.drain.new.port c.count.result c.drain.result c.count.ensures.port c.count.ensures.whole c.count.ensures.found c.drain.ensures.port c.drain.ensures.known c.drain.ensures.whole c.drain.ensures.room

pub returns-clause-port : goal.returns-clause-port
returns-clause-port g c = emptied_port c.args.port.now c.count.new.port c.drain.new.port c.count.result c.drain.result c.count.ensures.port c.drain.ensures.port
