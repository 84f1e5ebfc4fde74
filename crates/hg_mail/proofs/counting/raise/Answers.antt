use Rattle.std.proofs.Common.{arith}
use Rattle.hg_mail.proofs.CountLaws.{raises}
use Rattle.hg_mail.proofs.counting.raise.Goals as goal

pub fetch_add-requires : goal.fetch_add-requires
fetch_add-requires c = (c.requires.table, omega (arith, c.requires.size), raises _ _ _ c.requires.part)
