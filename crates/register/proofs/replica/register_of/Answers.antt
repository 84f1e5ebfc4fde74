use Rattle.std.proofs.Common.{arith}
use Rattle.register.proofs.ReplicaLaws.{few_counted, one_more}
use Rattle.register.proofs.replica.register_of.Goals as goal

pub after_event-register-requires-clause-few : goal.after_event-register-requires-clause-few
after_event-register-requires-clause-few c =
    few_counted _ _ _ c.kept-placed-items.ensures.order _ c.loop-placed-test.true _ c.loop-placed.invariant (omega (arith, c.kept-placed-items.type_inv))

pub loop-placed-preserved : goal.loop-placed-preserved
loop-placed-preserved c = one_more _ _ _ c.kept-placed-items.ensures.order _ c.loop-placed-test.true _ c.loop-placed.invariant _ _ c.after_event-register.ensures
