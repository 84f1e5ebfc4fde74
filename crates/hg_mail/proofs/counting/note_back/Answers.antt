use Rattle.std.proofs.Common.{arith}
use Rattle.hg_mail.proofs.CountLaws.{comes_back}
use Rattle.hg_mail.proofs.counting.note_back.Goals as goal

pub load-requires : goal.load-requires
load-requires c = (c.requires.table, omega (arith, c.requires.size), comes_back _ _ _)
