-- What a disk in memory keeps of its file, and what that stands for.
use Rattle.std.specs.Prelude.{◌≡◌, ℕ, ◌+◌, List, [], ◌∷◌, length, take, drop}
use Rattle.hg_io.specs.Pending.{DiskCall, pending}
use Rattle.hg_io.specs.Pending.DiskCall.{Wrote, Synced}
use Rattle.hg_io.specs.declared.disk_mem.Done.{Done}
use Rattle.hg_io.specs.declared.disk_mem.Done.TheVariants as done

-- the calls that were done, where the written pieces stand one behind the other
abbrev pub calls_of : List ℕ → List Done → List DiskCall
calls_of pieces [] = []
calls_of pieces (done.Wrote at len ∷ rest) = Wrote at (take len pieces) ∷ calls_of (drop len pieces) rest
calls_of pieces (done.Synced ∷ rest) = Synced ∷ calls_of pieces rest

-- how many bytes they wrote
abbrev pub written_len : List Done → ℕ
written_len [] = 0
written_len (done.Wrote at len ∷ rest) = len + written_len rest
written_len (done.Synced ∷ rest) = written_len rest

-- this was the file at first, it has these bytes now, had those at the last sync, and all pieces are of these calls
pub record IsRecorded (first now kept pieces : List ℕ) (calls : List Done) : Type 0 where
  pub reads : now ≡ (pending first (calls_of pieces calls)).reads
  pub synced : kept ≡ (pending first (calls_of pieces calls)).synced
  pub whole : length pieces ≡ written_len calls
