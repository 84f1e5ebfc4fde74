use Rattle.std.proofs.Common.{◌<◌, [], get_or, arith}
use Rattle.hg_runs.specs.Safety.{IsOnePrefix}
use Rattle.check_graphs.proofs.OrderLaws.{below_next, pairs_of}
use Rattle.check_graphs.proofs.agreeing.with_pairs.Goals as goal

pub loop-place-preserved : goal.loop-place-preserved
loop-place-preserved c = record {
  none = λ e. c.loop-place.invariant.none (c.with_earlier-score.ensures.none e);
  pairs = λ e i j before lt. below_next (λ k. i < k → IsOnePrefix (get_or c.args.orders.now i []) (get_or c.args.orders.now k [])) c.loop-place.place
      (λ k below earlier. c.loop-place.invariant.pairs (c.with_earlier-score.ensures.none e) i k earlier below) (c.with_earlier-score.ensures.each e i) j lt before;
}

pub returns-clause-pairs : goal.returns-clause-pairs
returns-clause-pairs c = λ e. pairs_of c.args.orders.now (λ i j before high. c.loop-place.invariant.pairs e i j before (omega (arith, high, c.loop-place-test.false, c.loop-place.auto.place-end)))
