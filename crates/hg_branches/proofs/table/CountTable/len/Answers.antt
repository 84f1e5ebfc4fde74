use Rattle.std.proofs.Common.{◌∙◌, length, sym, ap}
use Rattle.hg_branches.specs.Table.{CountsWithRoom}
use Rattle.hg_branches.proofs.NumberLaws.{rows_many}
use Rattle.hg_branches.proofs.table.CountTable.len.Goals as goal

pub returns : goal.returns
returns c =
    c.len.ensures ∙ (sym (rows_many c.self.inside.own.width c.self.inside.own.numbers c.self.inside.tails.rows) ∙ ap (λ (t : CountsWithRoom). length t.rows) c.self.view_is)
