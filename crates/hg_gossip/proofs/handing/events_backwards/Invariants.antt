use Rattle.std.proofs.Common.{◌≡◌, ◌≤◌, drop, length}
use Rattle.std.specs.Prelude.{reverse}
use Rattle.hg_life.specs.NodeView.{node_rows}
use Rattle.hg_graph.specs.RowsWithRoom.{rows_of}
use Rattle.hg_gossip.specs.Handing.{rows_at}
use Rattle.hg_gossip.proofs.handing.events_backwards.Given as goal

abbrev pub invariant-events : goal.invariant-events
invariant-events g l =
    (l.left ≤ length l.places) × (rows_of l.events.items ≡ reverse (rows_at (node_rows l.node) (drop l.left l.places)))

abbrev pub decreases-events : goal.decreases-events
decreases-events g l = l.left
