use Rattle.hg_life.proofs.MemberLaws.{total_some}
use Rattle.hg_life.proofs.members.Members.stakes.Goals as goal

pub returns-clause-some : goal.returns-clause-some
returns-clause-some c = rw (← c.self.view_is) (total_some _ c.self.invariant)
