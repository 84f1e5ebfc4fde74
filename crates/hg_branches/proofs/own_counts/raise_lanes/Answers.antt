use Rattle.std.proofs.Common.{◌≡◌, inl, inr, slice_index, arith}
use Rattle.std.proofs.lemmas.Bool.{cases_lt}
use Rattle.std.proofs.lemmas.List.{get_or_past}
use Rattle.hg_branches.proofs.own_counts.raise_lanes.Goals as goal

pub returns-clause-each : goal.returns-clause-each
returns-clause-each c = λ k.
    elim (cases_lt k c.loop-i.i) [
      | inl before ↦ c.loop-i.invariant.done k before
      | inr past ↦
          (let over = c.loop-i-test.false in
          let none : slice_index c.args.others.now k ≡ 0 = get_or_past c.args.others.now k 0 (omega arith) in
          let left = c.loop-i.invariant.left k past in
          omega arith)
    ]
