use Rattle.hg_gossip.proofs.RefusalLaws.{refusals_count, takes_hold}
use Rattle.hg_gossip.proofs.laws.taking_holds.Goals as goal

pub returns-clause-each : goal.returns-clause-each
returns-clause-each g c = takes_hold g.row.K.Denot

pub returns-clause-counted : goal.returns-clause-counted
returns-clause-counted g c = refusals_count g.row.K.Denot
