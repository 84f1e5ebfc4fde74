use Rattle.std.proofs.Common.{arith}
use Rattle.hg_order.proofs.BoundLaws.{bounds_next}
use Rattle.hg_order.proofs.FamousLaws.{famous_within}
use Rattle.hg_order.proofs.least.least_counts.Goals as goal

pub counts-requires : goal.counts-requires
counts-requires g c = rw c.is_of_graph.ensures.matches.shaped (famous_within _ _ c.requires c.loop-w.w-index 0 (omega arith))

pub loop-w-preserved : goal.loop-w-preserved
loop-w-preserved g c =
    let e = c.is_of_graph.ensures in
    let counts = rw e.matches.shaped at c.in-Some.ensures in
    record {
      none = λ is. absurd (omega arith);
      bounds = λ _. bounds_next _ _ e.shaped _ _ _ _ c.loop-w.w-index 0 4294967295 c.loop-w-test.true c.loop-w.invariant.none e.few c.loop-w.invariant.bounds counts c.lower.ensures.short c.lower.ensures.lowered;
      lines = λ some. record { line = counts.line };
    }
