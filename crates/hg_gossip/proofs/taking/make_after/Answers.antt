use Rattle.std.proofs.Common.{arith}
use Rattle.std.proofs.lemmas.Grind.{common_steps}
use Rattle.hg_gossip.proofs.taking.make_after.Goals as goal

pub returns-in_ok-answer-in-Some-clause-ok : goal.returns-in_ok-answer-in-Some-clause-ok
returns-in_ok-answer-in-Some-clause-ok g c = grind (arith, common_steps)
