use Rattle.std.proofs.Common.{◌≤◌, ◌∙◌, List, ℕ, length, take, sym, ap, ap₂, arith}
use Rattle.std.proofs.lemmas.List.{length-take-le}
use Rattle.hg_branches.specs.Tails.{Tail}
use Rattle.hg_branches.specs.Table.{CountsWithRoom, rows_of}
use Rattle.hg_branches.proofs.NumberLaws.{rows_many, rows_cut, keeps_cut}
use Rattle.hg_branches.proofs.table.CountTable.prefix.Goals as goal

pub prefix-requires : goal.prefix-requires
prefix-requires c =
    let s = c.self.inside in
    let inside : c.args.len ≤ length s.tails.rows = omega (arith, ap (λ (t : CountsWithRoom). length t.rows) c.self.view_is, rows_many s.own.width s.own.numbers s.tails.rows, c.requires) in
    omega (arith, c.self.invariant.0, inside)

pub prefix-requires-2 : goal.prefix-requires-2
prefix-requires-2 c =
    let s = c.self.inside in
    omega (arith, ap (λ (t : CountsWithRoom). length t.rows) c.self.view_is, rows_many s.own.width s.own.numbers s.tails.rows, c.requires)

pub invariant_of-result : goal.invariant_of-result
invariant_of-result c =
    let s = c.self.inside in
    let inside : c.args.len ≤ length s.tails.rows = omega (arith, ap (λ (t : CountsWithRoom). length t.rows) c.self.view_is, rows_many s.own.width s.own.numbers s.tails.rows, c.requires) in (
      c.in_ok-prefix.ensures.rows ∙ sym (ap length c.in_ok-prefix-2.ensures ∙ length-take-le c.args.len s.tails.rows inside),
      rw (c.in_ok-prefix.ensures.width, c.in_ok-prefix.ensures.numbers, c.in_ok-prefix-2.ensures) (keeps_cut s.own.width s.widest s.own.numbers s.tails.rows c.self.invariant.1 c.args.len inside),
    )

pub returns-clause-rows : goal.returns-clause-rows
returns-clause-rows c =
    let s = c.self.inside in
    let inside : c.args.len ≤ length s.tails.rows = omega (arith, ap (λ (t : CountsWithRoom). length t.rows) c.self.view_is, rows_many s.own.width s.own.numbers s.tails.rows, c.requires) in
    ap (λ n. rows_of n c.in_ok-prefix.field-0.numbers c.in_ok-prefix-2.field-0.rows) c.in_ok-prefix.ensures.width
    ∙ (ap₂ (λ (o : List ℕ) (t : List Tail). rows_of s.own.width o t) c.in_ok-prefix.ensures.numbers c.in_ok-prefix-2.ensures
    ∙ (rows_cut s.own.width s.widest s.own.numbers s.tails.rows c.self.invariant.1 c.args.len inside ∙ ap (λ (t : CountsWithRoom). take c.args.len t.rows) c.self.view_is))
