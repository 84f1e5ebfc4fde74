use Rattle.std.proofs.Common.{[], get_or, arith, ◌∙◌}
use Rattle.hg_runs.specs.Safety.{IsOnePrefix}
use Rattle.check_graphs.proofs.OrderLaws.{below_next, at_places}
use Rattle.check_graphs.proofs.agreeing.with_earlier.Goals as goal

pub loop-k-preserved : goal.loop-k-preserved
loop-k-preserved c = record {
  none = λ e. c.loop-k.invariant.none (c.counted-score.ensures e).0;
  each = λ e. below_next (λ k. IsOnePrefix (get_or c.args.orders.now k []) (get_or c.args.orders.now c.args.place [])) c.loop-k.k (c.loop-k.invariant.each (c.counted-score.ensures e).0)
      (at_places c.args.orders.now c.loop-k.k c.args.place _ _ _ _ (omega (arith, c.loop-k-test.true)) c.requires (c.as_slice.ensures ∙ c.index-orders-k.is) (c.as_slice-in-loop-k.ensures ∙ c.index-orders-place.is)
      (c.is_one_prefix-same.ensures.0 (c.counted-score.ensures e).1));
}

pub returns-clause-each : goal.returns-clause-each
returns-clause-each c = λ e k lt. c.loop-k.invariant.each e k (omega (arith, lt, c.loop-k-test.false))
