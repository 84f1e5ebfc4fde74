-- A disk in memory, as its users see it.
use Rattle.std.specs.Prelude.{◌⊎◌, ℕ, ◌+◌, ◌<◌, ◌≤◌, Bool, if◌then◌else◌, Contains, List, [], ◌∷◌, ◌++◌, length, Some, Result, Ok, Err}
use Rattle.hg_io.specs.Faults.{raised}
use Rattle.hg_io.specs.FileView.{FileView}
use Rattle.hg_io.specs.Pending.{DiskCall, IsImage, IsImageSince, Pending, pending}
use Rattle.hg_io.specs.Pending.DiskCall.{Wrote, Synced}

pub record DiskState : Type 0 where
  -- the bytes of the file when the disk was made, and the writes and syncs since
  pub first : List ℕ
  pub done : List DiskCall
  -- how many bytes these are with those of the writes; the greatest number of them, and of writes and syncs
  pub used : ℕ
  pub room : ℕ
  -- the numbers of the calls that fail
  pub fails : List ℕ
  -- how many calls there were, and how many of them failed
  pub calls : ℕ
  pub faults : ℕ

-- a disk that was not called yet, whose file has these bytes
abbrev pub new_disk : List ℕ → ℕ → List ℕ → DiskState
new_disk bytes room fails = record { first = bytes; done = []; used = length bytes; room = room; fails = fails; calls = 0; faults = 0 }

abbrev pub pending_of : DiskState → Pending
pending_of d = pending d.first d.done

-- the bytes of its file as it reads, and as it was at the last sync, or when the disk was made
abbrev pub reads : DiskState → List ℕ
reads d = (pending_of d).reads

abbrev pub synced : DiskState → List ℕ
synced d = (pending_of d).synced

-- all of the file, or what was synced
abbrev pub left_of : DiskState → Bool → List ℕ
left_of d all = if all then reads d else synced d

-- its file as clauses see it
abbrev pub file_of : DiskState → FileView
file_of d = record {
  reads = Some (reads d);
  may_leave = IsImage (pending_of d);
  age = length d.done;
  left_since = IsImageSince d.first d.done;
}

-- the next call fails, if it is a sync: its number is listed, or there is no room for its record
abbrev pub RefusesSync : DiskState → Type 0
RefusesSync d = Contains d.fails d.calls ⊎ (d.room ≤ length d.done)

-- .. if it writes this piece: there is no room for its bytes either
abbrev pub RefusesWrite : DiskState → List ℕ → Type 0
RefusesWrite d piece = RefusesSync d ⊎ (d.room < d.used + length piece)

abbrev pub after_ok : DiskState → DiskState
after_ok d = record d { calls = raised d.calls }

abbrev pub after_fault : DiskState → DiskState
after_fault d = record (after_ok d) { faults = raised d.faults }

-- the disk after a call that changes nothing of the file and gave this
abbrev pub after_look : {T E : Type 0} → DiskState → Result T E → DiskState
after_look d (Ok x) = after_ok d
after_look d (Err e) = after_fault d

-- .. after a write of this piece at this place
abbrev pub after_write : {T E : Type 0} → DiskState → ℕ → List ℕ → Result T E → DiskState
after_write d at piece (Ok x) = record (after_ok d) { done = d.done ++ Wrote at piece ∷ []; used = d.used + length piece }
after_write d at piece (Err e) = after_fault d

-- .. after a sync
abbrev pub after_sync : {T E : Type 0} → DiskState → Result T E → DiskState
after_sync d (Ok x) = record (after_ok d) { done = d.done ++ Synced ∷ [] }
after_sync d (Err e) = after_fault d
