use Rattle.std.proofs.Common.{◌≡◌, inl, inr, slice_index, arith}
use Rattle.std.proofs.lemmas.Bool.{cases_lt}
use Rattle.std.proofs.lemmas.List.{get_or_past}
use Rattle.hg_branches.proofs.branches.cut_ends.Goals as goal

pub returns-clause-each : goal.returns-clause-each
returns-clause-each c = λ b.
    elim (cases_lt b c.loop-b.b) [
      | inl before ↦ c.loop-b.invariant.done b before
      | inr past ↦
          (let over = c.loop-b-test.false in
          let none : slice_index c.args.ends.now b ≡ 0 = get_or_past c.args.ends.now b 0 (omega arith) in
          let left = c.loop-b.invariant.left b past in
          omega arith)
    ]
