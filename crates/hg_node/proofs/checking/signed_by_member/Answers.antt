use Rattle.std.proofs.Common.{arith}
use Rattle.std.proofs.lemmas.Grind.{common_steps}
use Rattle.hg_node.proofs.checking.signed_by_member.Goals as goal

pub returns-clause-signed : goal.returns-clause-signed
returns-clause-signed g c = grind (arith, common_steps)
