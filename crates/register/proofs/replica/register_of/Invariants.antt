use Rattle.std.proofs.Common.{◌≡◌, take}
use Rattle.hg_life.specs.NodeView.{kept_of, node_rows}
use Rattle.register.specs.Replicas.{register_in}
use Rattle.register.proofs.replica.register_of.Given as goal

abbrev pub invariant-loop-placed : goal.invariant-loop-placed
invariant-loop-placed l = l.register ≡ register_in (node_rows l.node) (take l.placed-index (kept_of l.node))
