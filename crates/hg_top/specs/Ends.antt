-- What a work comes to: said once, by recursion over it, for all commands
use Rattle.std.specs.Prelude.{ℕ, ◌≡◌, ◌<◌, ◌≤◌, ◌⊎◌, ⊤, List, length, Option, Result, Ok}
use Rattle.std.specs.Option.{ForSome}
use Rattle.hg_io.specs.Faults.{raised}
use Rattle.hg_io.specs.Files.{Files}
use Rattle.hg_io.specs.declared.disk.Disk as disk
use Rattle.hg_io.specs.declared.shelf.Shelf as shelf
use Rattle.hg_io.specs.declared.sink.Sink as sink
use Rattle.hg_top.specs.declared.status.File.{File}
use Rattle.hg_top.specs.declared.status.Status.{Status}
use Rattle.hg_top.specs.declared.status.Status.TheVariants.{Done, ReadFault, Memory}
use Rattle.hg_top.specs.Course.{Course, HasDiskFault, HasMore, HasReadFault, HasWithin, HasWriteFault, IsIdle, IsQuiet, Tells, course, disk_course, no_disk, reading}
use Rattle.hg_top.specs.Keeps.{KeepEnds, KeepSpares, KeepSyncs, keep_status}
use Rattle.hg_top.specs.Work.{Work, limit_of, too_long}
use Rattle.hg_top.specs.Work.Work.{Writes, Stops, Reads, Keeps}
use Rattle.hg_top.specs.Writing.{Gives, Wrote}

-- why a file that was started gave no bytes: the shelf failed at its name, or it has too many, or memory ran out
abbrev pub StopsAt : Course → File → List ℕ → Status → Type 0
StopsAt c file name status =
    ((status ≡ ReadFault file) × HasReadFault c name)
    ⊎ (((status ≡ too_long file) × HasMore c.shelf.holds name (limit_of file)) ⊎ (status ≡ Memory))

-- How a work ended that began after so many starts of files. No file is started until the one before it was taken. Until the
-- last step nothing is done to standard output or the disk. A want of memory may end it at any step.
abbrev pub Comes : Work → Course → ℕ → Status → Type 0
Comes (Writes Is) c starts status = (c.shelf.starts_after ≡ starts) × Wrote Is c.out status × IsIdle c.disk
Comes (Stops why) c starts status = Gives why status × IsQuiet c starts
Comes (Reads file name next) c starts status =
    ((status ≡ Memory) × IsQuiet c starts)
    ⊎ ((StopsAt c file name status × IsQuiet c (raised starts))
    ⊎ ((bytes : List ℕ) × HasWithin c.shelf.holds name (limit_of file) bytes × Comes (next bytes) c (raised starts) status))
Comes (Keeps k) c starts status =
    (c.shelf.starts_after ≡ starts) × KeepEnds k c.disk c.out status × KeepSyncs k c.disk status × KeepSpares k c.disk

-- how a call ended whose first step is the work's
abbrev pub Ends : Work → Course → Status → Type 0
Ends work c status = Comes work c c.shelf.starts_before status

-- What must come of a work if neither the shelf nor the disk nor standard output fails: its text, or the status that it
-- stops with, or that of a file that is too long or of a journal that is refused; only a want of memory may come instead.
abbrev pub Completes : Work → Course → Status → Type 0
Completes (Writes Is) c status = (HasWriteFault c → ⊥) → Gives Done status
Completes (Stops why) c status = Gives why status
Completes (Reads file name next) c status =
    (bytes : List ℕ) → Tells c.shelf.holds name bytes → (HasReadFault c name → ⊥) →
    ((limit_of file < length bytes) → Gives (too_long file) status) × ((length bytes ≤ limit_of file) → Completes (next bytes) c status)
Completes (Keeps k) c status =
    (HasWriteFault c → ⊥) → (HasDiskFault c.disk k.journal → ⊥)
    → ForSome c.disk.before.reads (λ bytes. Gives (keep_status k bytes) status)

-- the same of a call with a shelf F and standard output K, each before and after
abbrev pub EndsOn : {S T : Type 0} → shelf.Ghosts S → sink.Ghosts T → S → S → T → T → Work → Status → Type 0
EndsOn F K s t out written work status = Ends work (course F K s t out written no_disk) status

-- .. and with a disk W
abbrev pub EndsOnDisk : {S T D : Type 0} → shelf.Ghosts S → sink.Ghosts T → disk.Ghosts D → S → S → T → T → D → D → Work → Status → Type 0
EndsOnDisk F K W s t out written before after work status =
    Ends work (course F K s t out written (disk_course W before after)) status

abbrev pub CompletesOnDisk : {S T D : Type 0} → shelf.Ghosts S → sink.Ghosts T → disk.Ghosts D → S → S → T → T → D → D → Work → Status → Type 0
CompletesOnDisk F K W s t out written before after work status =
    Completes work (course F K s t out written (disk_course W before after)) status

-- the work begins with no file
abbrev pub ReadsNoFile : Work → Type 0
ReadsNoFile (Reads file name next) = ⊥
ReadsNoFile _ = ⊤

-- a work came to this status, with a shelf F alone
abbrev pub StopsIn : {S : Type 0} → shelf.Ghosts S → S → S → Work → Status → Type 0
StopsIn F before after work status = Ends work (reading F before after) status

-- the file of this name was taken for this
abbrev pub IsTaken : {A F : Type 0} → Option Files → File → (List ℕ → Result A F) → List ℕ → A → Type 0
IsTaken holds file read name x = (bytes : List ℕ) × HasWithin holds name (limit_of file) bytes × (read bytes ≡ Ok x)
