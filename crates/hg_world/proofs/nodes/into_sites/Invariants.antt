use Rattle.std.proofs.Common.{◌≡◌, ◌≤◌, ◌+◌, ◌++◌, length}
use Rattle.std.specs.Prelude.{vec_capacity}
use Rattle.std.specs.Vec.Iter.{into_iter_items, into_iter_len}
use Rattle.hg_world.specs.Parts.{unfrozen}
use Rattle.hg_world.proofs.nodes.into_sites.Given as goal

abbrev pub invariant-loop-node : goal.invariant-loop-node
invariant-loop-node l = record {
  moved : l.sites.items ++ unfrozen (into_iter_items l.node-iterator) ≡ unfrozen l.fn.nodes.items;
  left : into_iter_len l.node-iterator ≡ length (into_iter_items l.node-iterator);
  room : length l.sites.items + length (into_iter_items l.node-iterator) ≤ vec_capacity l.sites;
}
