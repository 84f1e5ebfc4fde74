use Rattle.std.proofs.Common.{arith}
use Rattle.hg_model.specs.declared.row.Placed.{Placed}
use Rattle.hg_proof.proofs.FrontLaws.{bound_more}
use Rattle.hg_proof.proofs.least.least_bound.Goals as goal

pub loop-p-init : goal.loop-p-init
loop-p-init c = λ k low. absurd (omega (arith, low))

pub loop-p-preserved : goal.loop-p-preserved
loop-p-preserved c = λ k low.
    let none : Placed = record { place = 0; received = 0; time = 0 } in
    bound_more c.args.order.now c.loop-p.p-index none c.loop-p.bound c.past-bound.result k (omega arith) (omega (arith, c.past-bound.ensures)) c.loop-p.invariant low
