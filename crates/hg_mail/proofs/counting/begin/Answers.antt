use Rattle.std.proofs.Common.{arith}
use Rattle.hg_mail.proofs.CountLaws.{begins_collecting}
use Rattle.hg_mail.proofs.counting.begin.Goals as goal

pub load-requires : goal.load-requires
load-requires c = (c.requires.table, omega (arith, c.requires.size), begins_collecting _ _ _)
