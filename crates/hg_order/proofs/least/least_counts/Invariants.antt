use Rattle.std.proofs.Common.{take, replicate, ◌<◌, ◌≡◌}
use Rattle.hg_model.specs.Prefix.{links_of}
use Rattle.hg_order.specs.Famous.{all_have}
use Rattle.hg_order.specs.Counted.{AreBounds, AreLines}
use Rattle.hg_order.proofs.least.least_counts.Given as goal

abbrev pub invariant-loop-w : goal.invariant-loop-w
invariant-loop-w g l = let graph = g.P.Prefix.graph l.p in record {
  none : l.w-index ≡ 0 → l.least ≡ replicate 128 4294967295;
  bounds : 0 < l.w-index → AreBounds graph.members (links_of graph) l.least (all_have (links_of graph) (take l.w-index l.famous));
  lines : 0 < l.w-index → AreLines (links_of graph);
}
