use Rattle.hg_wire.proofs.Streams.{IfOk-first}
use Rattle.hg_wire.proofs.laws.hear_all.Goals as goal

pub returns-clause-first : goal.returns-clause-first
returns-clause-first c = IfOk-first c.args.want _ c.hear_each.result c.hear_each.ensures.says
