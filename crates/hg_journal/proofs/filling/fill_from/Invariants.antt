use Rattle.std.proofs.Common.{◌≡◌, ℕ, ◌+◌, ◌-◌, ◌<◌, ◌≤◌, ◌^◌, List, drop, length, take}
use Rattle.std.specs.Option.{ForSome}
use Rattle.hg_io.specs.FileView.{Stays}
use Rattle.hg_journal.proofs.filling.fill_from.Given as goal

abbrev pub invariant-pieces : goal.invariant-pieces
invariant-pieces g l =
    let disk = g.D.Disk in
    record {
      within : l.count ≤ length l.buf;
      small : l.at + length l.buf < 2 ^ 64;
      front : ForSome (disk.file l.fn.disk).reads (λ bytes. take l.count l.buf ≡ take l.count (drop l.at bytes));
      stays : Stays (disk.file l.fn.disk) (disk.file l.disk);
      started : disk.At l.disk l.name;
      counts : (other : List ℕ) → disk.faults l.fn.disk other ≤ disk.faults l.disk other;
    }

abbrev pub decreases-pieces : goal.decreases-pieces
decreases-pieces g l = length l.buf - l.count
