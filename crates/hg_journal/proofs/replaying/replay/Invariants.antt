use Rattle.std.proofs.Common.{◌≡◌, ℕ, ◌-◌, ◌≤◌, List, length, take}
use Rattle.std.specs.Option.{ForSome}
use Rattle.hg_io.specs.FileView.{Stays}
use Rattle.hg_node.specs.Replay.{new_node}
use Rattle.hg_journal.specs.Journal.{head_of, next_node}
use Rattle.hg_journal.specs.Places.{Leads}
use Rattle.hg_journal.specs.Stored.{IsNear}
use Rattle.hg_journal.proofs.replaying.replay.Given as goal

abbrev pub invariant-records : goal.invariant-records
invariant-records g l =
    let disk = g.D.Disk in
    let start = l.fn.node.start in
    record {
      room : 65535 ≤ length l.buffer;
      begins : l.node.start ≡ start;
      near : IsNear l.at l.node;
      leads : ForSome (disk.file l.fn.disk).reads
          (λ bytes. (l.at ≤ length bytes) × Leads (next_node g.V.Verifier.accepts) (new_node start) (head_of start) (take l.at bytes) l.node);
      stays : Stays (disk.file l.fn.disk) (disk.file l.disk);
      started : disk.At l.disk l.name;
      counts : (other : List ℕ) → disk.faults l.fn.disk other ≤ disk.faults l.disk other;
    }

abbrev pub decreases-records : goal.decreases-records
decreases-records g l = 2097153 - length l.node.history
