use Rattle.std.proofs.Common.{◌≡◌}
use Rattle.hg_model.specs.Places.{table}
use Rattle.hg_world.specs.World.{new_node}
use Rattle.hg_world.proofs.nodes.new_nodes.Given as goal

abbrev pub invariant-loop-own : goal.invariant-loop-own
invariant-loop-own l = l.nodes.items ≡ table (new_node l.members) l.own
