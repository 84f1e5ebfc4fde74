use Rattle.std.proofs.Common.{◌≡◌, ◌++◌, take}
use Rattle.hg_graph.specs.RowsWithRoom.{rows_of}
use Rattle.hg_gossip.proofs.handing.joined.Given as goal

abbrev pub invariant-loop-event : goal.invariant-loop-event
invariant-loop-event l = rows_of l.events.items ≡ rows_of l.initial.events.items ++ rows_of (take l.event-index l.event-items)
