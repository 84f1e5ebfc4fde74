use Rattle.std.proofs.Common.{◌≡◌, ◌<◌, ◌-◌, ◌+◌, List}
use Rattle.hg_graph.specs.declared.names.HashedRow.{HashedRow}
use Rattle.hg_graph.specs.Names.{IsFound, LeavesWays}
use Rattle.hg_graph.proofs.names.hang.Given as goal

abbrev pub invariant-down : goal.invariant-down
invariant-down l = record {
  same : l.hashed ≡ l.fn.hashed;
  before : l.x + 1 < l.number;
  way : (more : List HashedRow) → LeavesWays l.hashed more → IsFound more (l.number - 1) (l.x + 1) l.digits → IsFound more (l.number - 1) (l.first + 1) l.hash;
}

abbrev pub decreases-down : goal.decreases-down
decreases-down l = l.number - l.x
