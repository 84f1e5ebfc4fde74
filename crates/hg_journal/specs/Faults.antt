-- What an answer tells of a disk's faults, and what a call on the disk leaves as it was.
use Rattle.std.specs.Prelude.{◌≡◌, ◌≤◌, ℕ, List, Result, IsErrOf, is_some}
use Rattle.hg_io.specs.Faults.{Rose}
use Rattle.hg_io.specs.declared.disk.Disk as disk

-- where the answer is this error, the count of faults at this name rose
abbrev pub IsFaultCounted : {T E : Type 0} → Result T E → E → (List ℕ → ℕ) → (List ℕ → ℕ) → List ℕ → Type 0
IsFaultCounted r e before after name = IsErrOf r e → Rose (before name) (after name)

-- the frame of a call on the disk: the disk tells the file just where it did, the file of this name is the one that is started,
-- and no count of faults fell
pub record DiskFrame {A : Type 0} (D : disk.Ghosts A) (name : List ℕ) (before after : A) : Type 0 where
  pub shown : is_some (D.file after).reads ≡ is_some (D.file before).reads
  pub started : D.At after name
  pub counts : (other : List ℕ) → D.faults before other ≤ D.faults after other
