use Rattle.std.proofs.Common.{arith}
use Rattle.hg_mail.proofs.CountLaws.{looks}
use Rattle.hg_mail.proofs.counting.look.Goals as goal

pub load-requires : goal.load-requires
load-requires c = (c.requires.table, omega (arith, c.requires.size), looks _ _ _)
