use Rattle.std.proofs.Common.{◌≡◌, ℕ, ◌+◌, ◌-◌, ◌≤◌, List, length, take, is_some, vec_capacity}
use Rattle.std.specs.Prelude.{IsSome}
use Rattle.hg_journal.specs.Stored.{StoresNode}
use Rattle.hg_keep.specs.Keeping.{IsPutSome, PutsAll}
use Rattle.hg_keep.specs.Stops.{StopsLeaveOf}
use Rattle.hg_keep.proofs.putting.put_all.Given as goal

abbrev pub invariant-parts : goal.invariant-parts
invariant-parts g l =
    let accepts = g.V.Verifier.accepts in
    let disk = g.D.Disk in
    record {
      there : IsSome l.stored.node;
      within : l.done ≤ length l.events;
      room : length l.events ≤ vec_capacity l.answers;
      puts : PutsAll accepts (take l.done l.events) l.fn.stored.node l.stored.node l.counts;
      few : l.counts.accepted + (l.counts.known + l.counts.refused) ≡ l.done;
      stored : StoresNode accepts (disk.file l.disk) l.stored;
      stops : StopsLeaveOf accepts (IsPutSome accepts l.events) l.fn.stored.node (disk.file l.fn.disk) (disk.file l.disk);
      shown : is_some (disk.file l.disk).reads ≡ is_some (disk.file l.fn.disk).reads;
      name : l.stored.name ≡ l.fn.stored.name;
      started : disk.At l.disk l.stored.name;
      counts : (other : List ℕ) → disk.faults l.fn.disk other ≤ disk.faults l.disk other;
    }

abbrev pub decreases-parts : goal.decreases-parts
decreases-parts g l = length l.events - l.done
