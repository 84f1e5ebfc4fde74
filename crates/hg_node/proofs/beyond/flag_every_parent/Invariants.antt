use Rattle.std.proofs.Common.{length}
use Rattle.hg_model.specs.Places.{has_place, some_below}
use Rattle.hg_model.specs.Links.{links, parents}
use Rattle.hg_node.specs.Beyond.{AreFlagged}
use Rattle.hg_node.proofs.beyond.flag_every_parent.Given as goal

abbrev pub invariant-loop-x : goal.invariant-loop-x
invariant-loop-x l = AreFlagged (length l.graph.graph.rows) (λ y. some_below l.x (λ z. has_place (parents (links l.graph.graph.rows) z) y)) l.flags
