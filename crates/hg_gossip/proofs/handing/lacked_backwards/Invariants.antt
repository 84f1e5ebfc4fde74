use Rattle.std.proofs.Common.{◌≡◌, ◌≤◌, length}
use Rattle.hg_life.specs.NodeView.{node_rows}
use Rattle.hg_gossip.specs.Handing.{AreInside, lacked_backwards, rows_at}
use Rattle.hg_gossip.proofs.handing.lacked_backwards.Given as goal

abbrev pub invariant-places : goal.invariant-places
invariant-places g l =
    (l.from ≤ l.place) × (l.place ≤ length (node_rows l.peer)) × (rows_at (node_rows l.peer) l.places.items ≡ lacked_backwards l.taker l.peer l.place) × AreInside (node_rows l.peer) l.places.items

abbrev pub decreases-places : goal.decreases-places
decreases-places g l = l.place
