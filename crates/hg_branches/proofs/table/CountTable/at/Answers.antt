use Rattle.std.proofs.Common.{◌<◌, ◌≤◌, ◌-◌, ◌∙◌, length, sym, ap, subst, arith}
use Rattle.hg_branches.specs.Columns.{count_in}
use Rattle.hg_branches.specs.Table.{CountsWithRoom}
use Rattle.hg_branches.specs.Tails.{tail_count}
use Rattle.hg_branches.proofs.NumberLaws.{rows_many, count_read, number_tail}
use Rattle.hg_branches.proofs.table.CountTable.at.Goals as goal

pub at-requires-clause-place : goal.at-requires-clause-place
at-requires-clause-place c =
    let s = c.self.inside in
    omega (arith, ap (λ (t : CountsWithRoom). length t.rows) c.self.view_is, rows_many s.own.width s.own.numbers s.tails.rows, c.requires)

pub returns-else-b-members : goal.returns-else-b-members
returns-else-b-members c =
    let s = c.self.inside in
    let inside : c.args.x < length s.tails.rows = omega (arith, ap (λ (t : CountsWithRoom). length t.rows) c.self.view_is, rows_many s.own.width s.own.numbers s.tails.rows, c.requires) in
    c.at.ensures ∙ (ap (λ n. tail_count s.tails.rows c.args.x (c.args.b - n)) c.width-members.ensures
    ∙ (sym (count_read s.own.width s.own.numbers s.tails.rows c.args.x c.args.b inside ∙ number_tail s.own.width s.own.numbers s.tails.rows c.args.x c.args.b (subst (λ n. n ≤ c.args.b) c.width-members.ensures c.if-b-members.false))
    ∙ ap (λ (t : CountsWithRoom). count_in t.rows c.args.x c.args.b) c.self.view_is))
