use Rattle.std.proofs.Common.{◌<◌, ◌∙◌, [], length, get_or, ap, arith, eqb}
use Rattle.hg_branches.specs.Table.{CountsWithRoom, rows_of}
use Rattle.hg_branches.specs.Tails.{tail_width}
use Rattle.hg_branches.proofs.NumberLaws.{rows_many}
use Rattle.hg_branches.proofs.RowLaws.{tail_had, none_behind}
use Rattle.hg_branches.proofs.table.CountTable.is_own.Goals as goal

pub width-requires-clause-place : goal.width-requires-clause-place
width-requires-clause-place c =
    let s = c.self.inside in
    omega (arith, ap (λ (t : CountsWithRoom). length t.rows) c.self.view_is, rows_many s.own.width s.own.numbers s.tails.rows, c.requires)

pub returns : goal.returns
returns c =
    let s = c.self.inside in
    let inside : c.args.x < length s.tails.rows = omega (arith, ap (λ (t : CountsWithRoom). length t.rows) c.self.view_is, rows_many s.own.width s.own.numbers s.tails.rows, c.requires) in
    ap (λ k. eqb k 0) c.width.ensures
    ∙ (none_behind (length (get_or (rows_of s.own.width s.own.numbers s.tails.rows) c.args.x [])) s.own.width (tail_width s.tails.rows c.args.x) (tail_had s.own.width s.own.numbers s.tails.rows c.args.x inside).wide
    ∙ ap (λ (t : CountsWithRoom). eqb (length (get_or t.rows c.args.x [])) t.members) c.self.view_is)
