use Rattle.std.proofs.Common.{arith}
use Rattle.std.proofs.lemmas.Grind.{common_steps}
use Rattle.hg_votes.proofs.table.enter_or_leave.Goals as goal

pub returns-in-Err-clause-same_voters : goal.returns-in-Err-clause-same_voters
returns-in-Err-clause-same_voters g c = grind (arith, common_steps)
