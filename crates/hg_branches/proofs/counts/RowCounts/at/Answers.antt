use Rattle.std.proofs.Common.{◌∙◌, ◌-◌, get_or, sym, ap, arith}
use Rattle.hg_model.specs.Counts.{numbers_of}
use Rattle.hg_branches.specs.Rows.{RowView}
use Rattle.hg_branches.specs.Tails.{place_count}
use Rattle.hg_branches.proofs.RowLaws.{joined_lane, joined_other}
use Rattle.hg_branches.proofs.counts.RowCounts.at.Goals as goal

pub returns-then-b-members : goal.returns-then-b-members
returns-then-b-members c =
    let s = c.self.inside in
    c.number_at.ensures
    ∙ (sym (joined_lane (numbers_of s.own) s.tail.numbers.now s.tail.own s.tail.end c.args.b (omega (arith, c.if-b-members.true, c.len-members.ensures)))
    ∙ ap (λ (r : RowView). get_or r.row c.args.b 0) c.self.view_is)

pub returns-else-b-members : goal.returns-else-b-members
returns-else-b-members c =
    let s = c.self.inside in
    c.at.ensures
    ∙ (ap (λ k. place_count s.tail.numbers.now s.tail.own s.tail.end (c.args.b - k)) c.len-members.ensures
    ∙ (sym (joined_other (numbers_of s.own) s.tail.numbers.now s.tail.own s.tail.end c.args.b (omega (arith, c.if-b-members.false, c.len-members.ensures)))
    ∙ ap (λ (r : RowView). get_or r.row c.args.b 0) c.self.view_is))
