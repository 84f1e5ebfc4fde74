use Rattle.std.proofs.Common.{◌-◌, ◌≤◌, length}
use Rattle.hg_keep.specs.Events.{events_of}
use Rattle.hg_keep.proofs.EventLaws.{IsReadTo}
use Rattle.hg_keep.proofs.events.read_events.Given as goal

abbrev pub invariant-loop-rest : goal.invariant-loop-rest
invariant-loop-rest l = record {
  within : length l.rest ≤ length l.bytes;
  read : IsReadTo (events_of l.bytes) l.events.items (length l.bytes - length l.rest) l.rest;
}

abbrev pub decreases-loop-rest : goal.decreases-loop-rest
decreases-loop-rest l = length l.rest
