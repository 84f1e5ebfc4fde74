use Rattle.std.proofs.Common.{◌≡◌, take}
use Rattle.hg_model.specs.Held.{lacking}
use Rattle.hg_life.specs.NodeView.{node_rows}
use Rattle.hg_graph.specs.RowsWithRoom.{rows_of}
use Rattle.hg_gossip.proofs.handing.still_lacked.Given as goal

abbrev pub invariant-loop-event : goal.invariant-loop-event
invariant-loop-event g l = rows_of l.lacked.items ≡ lacking (node_rows l.taker) (rows_of (take l.event-index l.events))
