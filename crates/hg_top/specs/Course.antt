-- The course of a call: what the outside counts and tells before and after it
use Rattle.std.specs.Prelude.{ℕ, ◌≡◌, ◌<◌, ◌≤◌, ⊤, List, length, Option, Some, None, IfSome, IsSomeAnd}
use Rattle.hg_io.specs.Faults.{Rose, raised}
use Rattle.hg_io.specs.FileView.{FileView, Stays, unknown}
use Rattle.hg_io.specs.Files.{Files, content_of}
use Rattle.hg_io.specs.declared.disk.Disk as disk
use Rattle.hg_io.specs.declared.shelf.Shelf as shelf
use Rattle.hg_io.specs.declared.sink.Sink as sink

-- what became of a shelf: what it has, where it tells it, and its starts of files and its faults by name, before and after
pub record ShelfCourse : Type 0 where
  pub holds : Option Files
  pub starts_before : ℕ
  pub starts_after : ℕ
  pub faults_before : List ℕ → ℕ
  pub faults_after : List ℕ → ℕ

abbrev pub shelf_course : {S : Type 0} → shelf.Ghosts S → S → S → ShelfCourse
shelf_course F before after = record {
  holds = F.holds before;
  starts_before = F.starts before;
  starts_after = F.starts after;
  faults_before = F.faults before;
  faults_after = F.faults after;
}

-- what became of a sink: its bytes, where it tells them, and its faults, each before and after, and what says that no call
-- changed it
pub record SinkCourse : Type 1 where
  pub before : Option (List ℕ)
  pub after : Option (List ℕ)
  pub faults_before : ℕ
  pub faults_after : ℕ
  pub same : Type 0

abbrev pub sink_course : {T : Type 0} → sink.Ghosts T → T → T → SinkCourse
sink_course K before after = record {
  before = K.written before;
  after = K.written after;
  faults_before = K.faults before;
  faults_after = K.faults after;
  same = after ≡ before;
}

-- that of a call that has none
abbrev pub no_sink : SinkCourse
no_sink = record { before = None; after = None; faults_before = 0; faults_after = 0; same = ⊤ }

-- what became of a disk: its file and its faults by name, each before and after, and what says that no call changed it
pub record DiskCourse : Type 1 where
  pub before : FileView
  pub after : FileView
  pub faults_before : List ℕ → ℕ
  pub faults_after : List ℕ → ℕ
  pub same : Type 0

abbrev pub disk_course : {D : Type 0} → disk.Ghosts D → D → D → DiskCourse
disk_course D before after = record {
  before = D.file before;
  after = D.file after;
  faults_before = D.faults before;
  faults_after = D.faults after;
  same = after ≡ before;
}

-- no call was made of it
abbrev pub still : FileView → (List ℕ → ℕ) → DiskCourse
still file faults = record { before = file; after = file; faults_before = faults; faults_after = faults; same = ⊤ }

-- that of a call that has no disk
abbrev pub no_disk : DiskCourse
no_disk = still unknown (λ name. 0)

-- the course of a call: what became of its shelf, of standard output and of its disk
pub record Course : Type 1 where
  pub shelf : ShelfCourse
  pub out : SinkCourse
  pub disk : DiskCourse

-- that of a call with a shelf F and standard output K, each before and after
abbrev pub course : {S T : Type 0} → shelf.Ghosts S → sink.Ghosts T → S → S → T → T → DiskCourse → Course
course F K s t out written d = record { shelf = shelf_course F s t; out = sink_course K out written; disk = d }

-- that of a call with a shelf alone
abbrev pub reading : {S : Type 0} → shelf.Ghosts S → S → S → Course
reading F s t = record { shelf = shelf_course F s t; out = no_sink; disk = no_disk }

-- nothing was written to the disk
abbrev pub IsStill : DiskCourse → Type 0
IsStill d = Stays d.before d.after

-- no count of its faults fell
abbrev pub CountsOn : DiskCourse → Type 0
CountsOn d = (name : List ℕ) → d.faults_before name ≤ d.faults_after name

-- nothing at all was done to it: no file was started there
abbrev pub IsIdle : DiskCourse → Type 0
IsIdle d = IsStill d × CountsOn d × d.same

-- the starts have come to this number, and nothing was done to standard output or the disk
abbrev pub IsQuiet : Course → ℕ → Type 0
IsQuiet c starts = (c.shelf.starts_after ≡ starts) × c.out.same × IsIdle c.disk

-- the shelf failed at a name, or the disk did, or standard output
abbrev pub HasReadFault : Course → List ℕ → Type 0
HasReadFault c name = Rose (c.shelf.faults_before name) (c.shelf.faults_after name)

abbrev pub HasDiskFault : DiskCourse → List ℕ → Type 0
HasDiskFault d name = Rose (d.faults_before name) (d.faults_after name)

abbrev pub HasWriteFault : Course → Type 0
HasWriteFault c = Rose c.out.faults_before c.out.faults_after

-- the shelf has these bytes under the name, where it tells what it has
abbrev pub Has : Option Files → List ℕ → List ℕ → Type 0
Has holds name bytes = IfSome holds (λ files. content_of files name ≡ Some bytes)

-- the same, and they are no more than so many
abbrev pub HasWithin : Option Files → List ℕ → ℕ → List ℕ → Type 0
HasWithin holds name limit bytes = (length bytes ≤ limit) × Has holds name bytes

-- it has more bytes than so many under the name, where it tells what it has
abbrev pub HasMore : Option Files → List ℕ → ℕ → Type 0
HasMore holds name limit = IfSome holds (λ files. IsSomeAnd (content_of files name) (λ bytes. limit < length bytes))

-- a shelf that does tell, with these bytes under the name
abbrev pub Tells : Option Files → List ℕ → List ℕ → Type 0
Tells holds name bytes = IsSomeAnd holds (λ files. content_of files name ≡ Some bytes)

-- a shelf F was read, and no more: it has what it had, and no count of its faults fell
abbrev pub OnlyReads : {S : Type 0} → shelf.Ghosts S → S → S → Type 0
OnlyReads F before after = (F.holds after ≡ F.holds before) × ((name : List ℕ) → F.faults before name ≤ F.faults after name)

-- one file was started there
abbrev pub StartsOne : {S : Type 0} → shelf.Ghosts S → S → S → Type 0
StartsOne F before after = (F.starts after ≡ raised (F.starts before)) × OnlyReads F before after
