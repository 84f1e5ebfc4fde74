use Rattle.std.proofs.Common.{◌+◌, get_or, sym, ap, ◌∙◌, arith}
use Rattle.hg_model.specs.Counts.{numbers_of}
use Rattle.hg_branches.specs.Rows.{RowView}
use Rattle.hg_branches.proofs.RowLaws.{between_none}
use Rattle.hg_branches.proofs.counts.RowCounts.next_after.Goals as goal

pub returns-then-next-end-clause-between : goal.returns-then-next-end-clause-between
returns-then-next-end-clause-between c = λ k past before.
    let s = c.self.inside in
    ap (λ (r : RowView). get_or r.row k 0) (sym c.self.view_is)
    ∙ between_none (numbers_of s.own) s.tail.numbers.now s.tail.own s.tail.end c.args.b _ (omega (arith, c.saturating_add.ensures, c.len-members.ensures)) (λ _. omega (arith, c.saturating_add-end.ensures, c.len-members.ensures, c.min.ensures)) k past before

pub returns-else-next-end-clause-between : goal.returns-else-next-end-clause-between
returns-else-next-end-clause-between c = λ k past before.
    let s = c.self.inside in
    ap (λ (r : RowView). get_or r.row k 0) (sym c.self.view_is)
    ∙ between_none (numbers_of s.own) s.tail.numbers.now s.tail.own s.tail.end c.args.b (k + 1) (omega (arith, c.saturating_add.ensures, c.len-members.ensures)) (λ less. absurd (omega (arith, c.saturating_add-end.ensures, c.len-members.ensures))) k past (omega arith)
