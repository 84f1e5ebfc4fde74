use Rattle.hg_votes.proofs.MadeLaws.{made_empty}
use Rattle.hg_votes.proofs.table.VoteTable.empty.Goals as goal

pub returns : goal.returns
returns c = λ members coin. made_empty members coin _ _ _ c.new.ensures.numbers c.new.ensures.sets c.new-2.ensures.items c.new-3.ensures.items
