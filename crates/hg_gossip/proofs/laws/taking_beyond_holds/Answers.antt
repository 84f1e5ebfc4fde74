use Rattle.hg_gossip.proofs.RefusalLaws.{beyond_holds, tips_are_held}
use Rattle.hg_gossip.proofs.laws.taking_beyond_holds.Goals as goal

pub returns-clause-beyond : goal.returns-clause-beyond
returns-clause-beyond g c = beyond_holds g.row.K.Denot g.row.L.Denot

pub returns-clause-tips : goal.returns-clause-tips
returns-clause-tips g c = tips_are_held
