use Rattle.std.proofs.Common.{◌<◌, ◌+◌, [], length, get_or, ap, subst, arith}
use Rattle.hg_branches.specs.Table.{CountsWithRoom}
use Rattle.hg_branches.specs.Rows.{HasTail}
use Rattle.hg_branches.specs.Tails.{tail_at}
use Rattle.hg_branches.proofs.NumberLaws.{rows_many}
use Rattle.hg_branches.proofs.RowLaws.{tail_had}
use Rattle.hg_branches.proofs.table.CountTable.tail.Goals as goal

pub tail-requires-clause-place : goal.tail-requires-clause-place
tail-requires-clause-place c =
    let s = c.self.inside in
    omega (arith, ap (λ (t : CountsWithRoom). length t.rows) c.self.view_is, rows_many s.own.width s.own.numbers s.tails.rows, c.requires)

pub returns : goal.returns
returns c =
    let s = c.self.inside in
    let inside : c.args.x < length s.tails.rows = omega (arith, ap (λ (t : CountsWithRoom). length t.rows) c.self.view_is, rows_many s.own.width s.own.numbers s.tails.rows, c.requires) in
    rw (c.tail.ensures.numbers, c.tail.ensures.own, c.tail.ensures.end)
    (subst (λ (t : CountsWithRoom). HasTail t.members (get_or t.rows c.args.x []) (tail_at s.tails.rows c.args.x).numbers (tail_at s.tails.rows c.args.x).own (c.args.x + 1)) c.self.view_is (tail_had s.own.width s.own.numbers s.tails.rows c.args.x inside))
