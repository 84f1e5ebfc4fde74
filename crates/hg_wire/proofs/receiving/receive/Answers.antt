use Rattle.hg_wire.proofs.Sources.{IfOk-told}
use Rattle.hg_wire.proofs.receiving.receive.Goals as goal

pub returns-clause-told : goal.returns-clause-told
returns-clause-told g c = IfOk-told c.requires.0 c.args.ear.now _ _ c.listen.result c.requires.1 c.listen.ensures.received
