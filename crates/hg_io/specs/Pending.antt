-- A file in memory since its last sync: how it reads, how it was then, and what a stop may leave of it.
use Rattle.std.specs.Prelude.{◌≡◌, ℕ, ◌<◌, ◌≤◌, List, [], ◌∷◌, length, take, slice_index, ⊤}
use Rattle.std.specs.List.{fold}
use Rattle.hg_io.specs.FileView.{IsOutside, with_piece}

-- what was done to the file: this piece written at this place, or a sync
pub data DiskCall : Type 0 where
  Wrote : ℕ → List ℕ → DiskCall
  Synced : DiskCall

pub record Pending : Type 0 where
  pub reads : List ℕ
  pub synced : List ℕ
  -- where each write since the sync began, and how many bytes it wrote
  pub ranges : List (ℕ × ℕ)

-- a file of which nothing is pending
abbrev pub at_rest : List ℕ → Pending
at_rest bytes = record { reads = bytes; synced = bytes; ranges = [] }

abbrev pub after_call : Pending → DiskCall → Pending
after_call p (Wrote at piece) = record { reads = with_piece at piece p.reads; synced = p.synced; ranges = (at, length piece) ∷ p.ranges }
after_call p Synced = at_rest p.reads

-- what is pending of a file that had these bytes first, after these calls
unfoldable pub pending : List ℕ → List DiskCall → Pending
pending first done = fold after_call (at_rest first) done

-- none of these ranges has this place
abbrev pub IsUnwritten : List (ℕ × ℕ) → ℕ → Type 0
IsUnwritten [] place = ⊤
IsUnwritten (range ∷ ranges) place = IsOutside range.0 range.1 place × IsUnwritten ranges place

-- A stop may leave these bytes: any at the written places and past the synced size, the synced ones elsewhere, and of any
-- size between that one and the greatest since. That is the size as it reads, for no call makes the file shorter.
pub record IsImage (p : Pending) (left : List ℕ) : Type 0 where
  pub no_shorter : length p.synced ≤ length left
  pub no_longer : length left ≤ length p.reads
  pub same : (place : ℕ) → place < length p.synced → IsUnwritten p.ranges place → slice_index left place ≡ slice_index p.synced place

-- so it was after the first of these calls, this many or more
abbrev pub IsImageSince : List ℕ → List DiskCall → ℕ → List ℕ → Type 0
IsImageSince first done age left = (k : ℕ) × (age ≤ k) × (k ≤ length done) × IsImage (pending first (take k done)) left
