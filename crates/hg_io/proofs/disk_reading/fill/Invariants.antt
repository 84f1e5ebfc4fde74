use Rattle.std.proofs.Common.{◌≡◌, ℕ, ◌-◌, ◌≤◌, List, length, take}
use Rattle.std.specs.Option.{ForSome}
use Rattle.hg_io.specs.FileView.{Stays}
use Rattle.hg_io.proofs.disk_reading.fill.Given as goal

abbrev pub invariant-pieces : goal.invariant-pieces
invariant-pieces g l =
    let disk = g.D.Disk in
    record {
      within : l.at ≤ length l.buf;
      front : ForSome (disk.file l.fn.disk).reads (λ bytes. take l.at l.buf ≡ take l.at bytes);
      stays : Stays (disk.file l.fn.disk) (disk.file l.disk);
      started : disk.At l.disk l.name;
      counts : (other : List ℕ) → disk.faults l.fn.disk other ≤ disk.faults l.disk other;
    }

abbrev pub decreases-pieces : goal.decreases-pieces
decreases-pieces g l = length l.buf - l.at
