use Rattle.std.proofs.Common.{length, ◌-◌, ◌≤◌, take}
use Rattle.hg_io.specs.Bytes.{Appends}
use Rattle.hg_io.proofs.writing.write_all.Given as goal

abbrev pub invariant-pieces : goal.invariant-pieces
invariant-pieces g l =
    let sink = g.K.Sink in
    record {
      within : l.at ≤ length l.bytes;
      written : Appends (sink.written l.fn.sink) (sink.written l.sink) (take l.at l.bytes);
      count : sink.faults l.fn.sink ≤ sink.faults l.sink;
    }

abbrev pub decreases-pieces : goal.decreases-pieces
decreases-pieces g l = length l.bytes - l.at
