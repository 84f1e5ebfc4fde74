use Rattle.std.proofs.lemmas.List.Elements.{All-set}
use Rattle.check_graphs.specs.Moments.{IsFrozenOf}
use Rattle.check_graphs.proofs.MomentLaws.{all_pushed, speaks_now}
use Rattle.check_graphs.proofs.watched.Watched.hold.Goals as goal

pub invariant_of-self : goal.invariant_of-self
invariant_of-self c = record {
  moments = All-set (IsFrozenOf c.args.self.now.node) c.args.self.now.held.items c.args.number c.in_ok-frozen.frozen
      (speaks_now _ c.args.self.now.node c.in_ok-frozen.frozen.graph c.is_node.ensures c.rows_are_a_graph.ensures.links c.in_ok-frozen.ensures.graph) c.args.self.now.moments;
}

pub invariant_of-self-else-number-len : goal.invariant_of-self-else-number-len
invariant_of-self-else-number-len c = record {
  moments = all_pushed (IsFrozenOf c.args.self.now.node) c.args.self.now.held.items c.push.new.self.items c.in_ok-frozen.frozen _ c.push.ensures.items
      (speaks_now _ c.args.self.now.node c.in_ok-frozen.frozen.graph c.is_node.ensures c.rows_are_a_graph.ensures.links c.in_ok-frozen.ensures.graph) c.args.self.now.moments;
}
