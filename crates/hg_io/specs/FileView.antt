-- A file on a disk as clauses see it, and what calls and stops do to it.
use Rattle.std.specs.Prelude.{◌≡◌, ◌⊎◌, ◌↔◌, ℕ, ◌+◌, ◌<◌, ◌≤◌, max, List, ◌++◌, length, take, drop, slice_index, None, Option, IsSomeAnd, ⊤}
use Rattle.std.specs.Option.{ForSome}

pub record FileView : Type 1 where
  -- the bytes that reads give, where the disk tells them
  pub reads : Option (List ℕ)
  -- the bytes that a stop now may leave
  pub may_leave : List ℕ → Type 0
  -- a number that never falls; `left_since` tells what stops at it or later might have left
  pub age : ℕ
  -- the bytes that a stop at this age of the file, or a greater one, might have left
  pub left_since : ℕ → List ℕ → Type 0

-- a file of which nothing is known
abbrev pub unknown : FileView
unknown = record { reads = None; may_leave = λ left. ⊤; age = 0; left_since = λ age left. ⊤ }

-- what holds of every file
pub record IsFile (file : FileView) : Type 0 where
  -- a stop may leave the file as it reads
  pub as_read : ForSome file.reads file.may_leave
  -- a stop now is one since every age up to this one, and since this age there is no other
  pub now : (age : ℕ) (left : List ℕ) → age ≤ file.age → file.may_leave left → file.left_since age left
  pub last : (left : List ℕ) → file.left_since file.age left → file.may_leave left
  -- a stop since an age is one since every smaller age
  pub longer : (age later : ℕ) (left : List ℕ) → age ≤ later → file.left_since later left → file.left_since age left

-- On the way from old to new each stop left bytes that have P, besides those that one might have left before, which still
-- count.
pub record Leaves (old new : FileView) (P : List ℕ → Type 0) : Type 0 where
  pub older : old.age ≤ new.age
  pub still : (age : ℕ) (left : List ℕ) → age ≤ old.age → old.left_since age left → new.left_since age left
  pub only : (age : ℕ) (left : List ℕ) → age ≤ old.age → new.left_since age left → old.left_since age left ⊎ P left

-- reads give the same bytes, and stops leave no others
pub record Stays (old new : FileView) : Type 0 where
  pub reads : new.reads ≡ old.reads
  pub fewer : (left : List ℕ) → new.may_leave left → old.may_leave left
  pub leaves : Leaves old new (λ left. ⊥)

-- a stop leaves these bytes and no others
abbrev pub Only : FileView → List ℕ → Type 0
Only file bytes = (left : List ℕ) → file.may_leave left → left ≡ bytes

-- a stop leaves what reads give, where the disk tells it
abbrev pub IsSynced : FileView → Type 0
IsSynced file = ForSome file.reads (Only file)

-- k bytes from this place on are at the front of a buffer
abbrev pub ReadsAt : ℕ → ℕ → List ℕ → List ℕ → Type 0
ReadsAt at k buf bytes = (k ≤ length (drop at bytes)) × (take k buf ≡ take k (drop at bytes))

-- no byte was read just where none is there, or none was asked for
abbrev pub EndsAt : ℕ → ℕ → List ℕ → List ℕ → Type 0
EndsAt at k buf bytes = (k ≡ 0) ↔ ((length bytes ≤ at) ⊎ (length buf ≡ 0))

-- the first k bytes of a buffer are those of the file, and either all of it are or the buffer is full
abbrev pub IsFilled : ℕ → List ℕ → List ℕ → Type 0
IsFilled k buf bytes = (take k buf ≡ take k bytes) × ((length bytes ≤ k) ⊎ (length buf ≤ k))

-- these bytes with a piece over them, from this place on
abbrev pub with_piece : ℕ → List ℕ → List ℕ → List ℕ
with_piece at piece bytes = take at bytes ++ piece ++ drop (at + length piece) bytes

-- not one of the n places from this one on
abbrev pub IsOutside : ℕ → ℕ → ℕ → Type 0
IsOutside at n place = (place < at) ⊎ (at + n ≤ place)

-- what may come of old where n bytes from this place on are written and a stop cuts that short: some size up to the
-- written one, and any bytes at the written places and past the old size
pub record Torn (at n : ℕ) (old new : List ℕ) : Type 0 where
  pub no_shorter : length old ≤ length new
  pub no_longer : length new ≤ max (length old) (at + n)
  pub same : (place : ℕ) → place < length old → IsOutside at n place → slice_index new place ≡ slice_index old place

-- a file reads torn
abbrev pub ReadsTorn : ℕ → ℕ → FileView → FileView → Type 0
ReadsTorn at n old new = ForSome old.reads (λ bytes. IsSomeAnd new.reads (Torn at n bytes))

-- whatever a stop may leave now is torn from what one might have left before
abbrev pub TornFrom : ℕ → ℕ → FileView → FileView → Type 0
TornFrom at n old new = (left : List ℕ) → new.may_leave left → (before : List ℕ) × old.may_leave before × Torn at n before left

-- whatever a stop may leave of a file is torn from these bytes
abbrev pub LeavesTorn : ℕ → ℕ → FileView → List ℕ → Type 0
LeavesTorn at n file bytes = (left : List ℕ) → file.may_leave left → Torn at n bytes left
