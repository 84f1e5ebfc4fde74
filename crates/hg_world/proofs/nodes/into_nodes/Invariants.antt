use Rattle.std.proofs.Common.{◌≡◌, ◌≤◌, ◌+◌, ◌++◌, length}
use Rattle.std.specs.Prelude.{vec_capacity}
use Rattle.std.specs.Vec.Iter.{into_iter_items, into_iter_len}
use Rattle.hg_world.specs.Parts.{nodes_in}
use Rattle.hg_world.proofs.nodes.into_nodes.Given as goal

abbrev pub invariant-loop-site : goal.invariant-loop-site
invariant-loop-site l = record {
  moved : l.nodes.items ++ nodes_in (into_iter_items l.site-iterator) ≡ nodes_in l.fn.sites.items;
  left : into_iter_len l.site-iterator ≡ length (into_iter_items l.site-iterator);
  room : length l.nodes.items + length (into_iter_items l.site-iterator) ≤ vec_capacity l.nodes;
}
