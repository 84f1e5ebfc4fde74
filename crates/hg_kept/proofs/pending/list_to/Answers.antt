use Rattle.std.proofs.Common.{◌∙◌, arith}
use Rattle.hg_kept.proofs.WaitLaws.{lists_yes, lists_no}
use Rattle.hg_kept.proofs.pending.list_to.Goals as goal
use Rattle.hg_kept.proofs.pending.list_to.Goals.{then-ends-creator, else-ends-creator}

pub loop-x-preserved : goal.loop-x-preserved
loop-x-preserved g c =
    let by = rw c.is_of_graph.ensures.matches.shaped at c.creator.ensures.value in
    let order = c.loop-x.auto.x in
    let few = c.loop-x.invariant.1 in
    elim c.if-ends-creator.branch [
      | then-ends-creator w ↦ rw (w.places-is, w.push_reserved.ensures.items) (
        lists_yes _ c.args.ends.now c.args.looked c.loop-x.x (omega arith) _ _ c.loop-x.invariant.0 _ by w.if-ends-creator.true,
        omega (arith, w.push_reserved.ensures.len),
        w.push_reserved.ensures.capacity ∙ c.loop-x.invariant.2,
      )
      | else-ends-creator w ↦ rw w.places-is (
        lists_no _ c.args.ends.now c.args.looked c.loop-x.x (omega arith) _ _ c.loop-x.invariant.0 _ by (omega (arith, w.if-ends-creator.false)),
        omega arith,
        c.loop-x.invariant.2,
      )
    ]
