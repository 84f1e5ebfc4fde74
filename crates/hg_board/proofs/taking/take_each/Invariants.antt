use Rattle.std.proofs.Common.{◌≡◌, ◌≤◌, ◌+◌, take}
use Rattle.hg_graph.specs.RowsWithRoom.{rows_of}
use Rattle.hg_gossip.specs.Nodes.{taking_of}
use Rattle.hg_board.specs.Taking.{AddsInside, taking_rows}
use Rattle.hg_board.proofs.taking.take_each.Given as goal

abbrev pub invariant-loop-event : goal.invariant-loop-event
invariant-loop-event g l = record {
  table : l.raw.table_id ≡ l.initial.raw.table_id;
  adds : AddsInside l.initial.raw.me l.raw.me l.initial.node l.node;
  taken : taking_rows g.V.Verifier.accepts l.initial.node (take l.event-index (rows_of l.events)) ≡ taking_of l.node l.counts;
  few : l.counts.taken + l.counts.refused ≤ l.event-index;
}
