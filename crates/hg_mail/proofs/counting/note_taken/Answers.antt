use Rattle.std.proofs.Common.{arith}
use Rattle.hg_mail.proofs.CountLaws.{notes_taken}
use Rattle.hg_mail.proofs.counting.note_taken.Goals as goal

pub fetch_add-requires : goal.fetch_add-requires
fetch_add-requires c = (c.requires.table, omega (arith, c.requires.size), notes_taken _ _ _ _)
