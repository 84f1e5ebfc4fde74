use Rattle.std.proofs.Common.{◌∙◌, ap, sym, length}
use Rattle.hg_bits.proofs.RowLaws.{length-bits}
use Rattle.hg_bits.proofs.row.BitRow.len.Goals as goal

pub returns : goal.returns
returns c = sym (ap length (sym c.self.view_is) ∙ length-bits c.self.inside.words.items c.self.inside.len)
