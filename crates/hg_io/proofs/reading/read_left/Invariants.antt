use Rattle.std.proofs.Common.{◌≡◌, ◌-◌, ◌≤◌, ℕ, List, vec_len}
use Rattle.hg_io.specs.Bytes.{TakesOff}
use Rattle.hg_io.proofs.reading.read_left.Given as goal

abbrev pub invariant-pieces : goal.invariant-pieces
invariant-pieces g l =
    let shelf = g.F.Shelf in
    record {
      within : vec_len l.bytes ≤ l.limit;
      read : TakesOff (shelf.left l.fn.shelf) (shelf.left l.shelf) l.bytes.items;
      started : shelf.At l.shelf l.name;
      same : shelf.holds l.shelf ≡ shelf.holds l.fn.shelf;
      counts : (other : List ℕ) → shelf.faults l.fn.shelf other ≤ shelf.faults l.shelf other;
      begun : shelf.starts l.shelf ≡ shelf.starts l.fn.shelf;
    }

abbrev pub decreases-pieces : goal.decreases-pieces
decreases-pieces g l = l.limit - vec_len l.bytes
