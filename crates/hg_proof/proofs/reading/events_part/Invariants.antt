use Rattle.std.proofs.Common.{◌≡◌, ◌-◌, ◌<◌}
use Rattle.hg_graph.specs.RowsWithRoom.{rows_of}
use Rattle.hg_proof.specs.Reading.{row_part, rows_part}
use Rattle.hg_proof.specs.Want.{IsRead}
use Rattle.hg_proof.proofs.PartLaws.{after}
use Rattle.hg_proof.proofs.reading.events_part.Given as goal

abbrev pub invariant-loop : goal.invariant-loop
invariant-loop l = record {
  parts : rows_part l.size l.count l.bytes ≡ after (rows_of l.events.items) (rows_part l.size (l.count - l.counter) l.left);
  begun : 0 < l.counter → IsRead (row_part l.size l.bytes);
  start : l.counter ≡ 0 → l.left ≡ l.bytes;
}
