use Rattle.std.proofs.Common.{◌<◌, ◌∙◌, [], length, get_or, take, ap, arith}
use Rattle.hg_model.specs.Counts.{numbers_of}
use Rattle.hg_branches.specs.Table.{CountsWithRoom}
use Rattle.hg_branches.proofs.NumberLaws.{rows_many, own_known}
use Rattle.hg_branches.proofs.table.CountTable.own.Goals as goal

pub row-requires : goal.row-requires
row-requires c =
    let s = c.self.inside in
    let inside : c.args.x < length s.tails.rows = omega (arith, ap (λ (t : CountsWithRoom). length t.rows) c.self.view_is, rows_many s.own.width s.own.numbers s.tails.rows, c.requires) in
    omega (arith, c.self.invariant.0, inside)

pub returns-clause-value : goal.returns-clause-value
returns-clause-value c =
    let s = c.self.inside in
    let inside : c.args.x < length s.tails.rows = omega (arith, ap (λ (t : CountsWithRoom). length t.rows) c.self.view_is, rows_many s.own.width s.own.numbers s.tails.rows, c.requires) in
    own_known s.own.width s.own.numbers s.tails.rows s.widest c.self.invariant.1 c.args.x inside (numbers_of c.row.result) c.row.ensures.len c.row.ensures.value
    ∙ ap (λ (t : CountsWithRoom). take t.members (get_or t.rows c.args.x [])) c.self.view_is
