-- What comes of the work on a node that is kept in a journal
use Rattle.std.specs.Prelude.{ℕ, ◌≡◌, ◌⊎◌, ⊤, List, is_some}
use Rattle.std.specs.Option.{ForSome}
use Rattle.hg_io.specs.declared.sink.Sink as sink
use Rattle.hg_life.specs.Members.{MemberList}
use Rattle.hg_life.specs.NodeView.{Start, start_of}
use Rattle.hg_life.specs.Signing.{accepts_by, secrets_of}
use Rattle.hg_journal.specs.Journal.{reading_of}
use Rattle.hg_journal.specs.Opening.{IsWrong}
use Rattle.hg_journal.specs.Reading.{Reading}
use Rattle.hg_journal.specs.Reading as R
use Rattle.hg_journal.specs.declared.errors.OpenError.{OpenError}
use Rattle.hg_journal.specs.declared.errors.OpenError.TheVariants as open_error
use Rattle.hg_keep.specs.Keeping.{IsOnTheWay}
use Rattle.hg_keep.specs.Stops.{KeepsTask, SparesOthers, SyncsOnTheWay}
use Rattle.hg_keep.specs.Text.{kept_text}
use Rattle.hg_keep.specs.declared.keeping.Task.{Task}
use Rattle.hg_keep.specs.declared.kept.KeepReport.{KeepReport}
use Rattle.hg_top.specs.declared.status.JournalFault.{JournalFault}
use Rattle.hg_top.specs.declared.status.JournalFault.TheVariants.{Foreign, Broken}
use Rattle.hg_top.specs.declared.status.Status.{Status}
use Rattle.hg_top.specs.declared.status.Status.TheVariants.{Done, Memory, Disk, Journal}
use Rattle.hg_top.specs.Course.{CountsOn, DiskCourse, HasDiskFault, IsStill, SinkCourse, sink_course}
use Rattle.hg_top.specs.Work.{KeepWork}
use Rattle.hg_top.specs.Writing.{Wrote}

-- what the node begins with: the members' secrets are its keys
abbrev pub start_for : KeepWork → Start (List (List ℕ))
start_for k = start_of k.members k.own (secrets_of k.members)

-- a task among these members
abbrev pub work_on : MemberList → Task → KeepWork
work_on members task =
    record { journal = task.journal.now; members = members; own = task.own; events = task.events.now; time = task.time }

-- The text tells what came of the work on the node whose journal the file was; the file is then that of the node after it,
-- and a stop leaves it so
abbrev pub IsKeptText : KeepWork → DiskCourse → List ℕ → Type 0
IsKeptText k d text =
    (kept : KeepReport)
    × KeepsTask accepts_by k.members (start_for k) k.events k.time d.before d.after kept
    × (text ≡ kept_text kept)

-- the statuses of the errors of opening a journal, and which error a fault of the journal is
abbrev pub open_status : OpenError → Status
open_status open_error.Disk = Disk
open_status open_error.Memory = Memory
open_status open_error.Foreign = Journal Foreign
open_status (open_error.Broken at) = Journal (Broken at)

abbrev pub error_of : JournalFault → OpenError
error_of Foreign = open_error.Foreign
error_of (Broken at) = open_error.Broken at

-- How it ended: the disk failed at the journal's name; or the file that it tells is so refused, and stays; or the text went
-- to standard output, as in `Wrote`
abbrev pub KeepEnds : KeepWork → DiskCourse → SinkCourse → Status → Type 0
KeepEnds k d o Disk = o.same × HasDiskFault d k.journal
KeepEnds k d o (Journal why) =
    o.same × IsStill d × ForSome d.before.reads (λ bytes. IsWrong accepts_by (start_for k) bytes (error_of why))
KeepEnds k d o status = Wrote (IsKeptText k d) o status

-- such a status may come before the first sync
abbrev pub IsEarly : Status → Type 0
IsEarly Disk = ⊤
IsEarly Memory = ⊤
IsEarly _ = ⊥

-- What stops leave meanwhile: where the file is a node's journal, from a first sync on that of a node on the way; or the
-- work ended before that, and nothing was written
abbrev pub KeepSyncs : KeepWork → DiskCourse → Status → Type 0
KeepSyncs k d status =
    ForSome d.before.reads (SyncsOnTheWay accepts_by (start_for k) (IsOnTheWay accepts_by k.events k.time) d.before d.after)
    ⊎ (IsEarly status × IsStill d)

-- What it leaves of the file whatever the status: one that is not the journal of the node, or a broken one, as it was; and
-- the disk tells it just where it did, and no count of its faults fell
abbrev pub KeepSpares : KeepWork → DiskCourse → Type 0
KeepSpares k d =
    SparesOthers accepts_by (start_for k) d.before d.after × (is_some d.after.reads ≡ is_some d.before.reads) × CountsOn d

-- all of this, of a sink K, before and after
abbrev pub KeptOn : {S : Type 0} → sink.Ghosts S → S → S → DiskCourse → KeepWork → Status → Type 0
KeptOn K before after d k status = KeepEnds k d (sink_course K before after) status × KeepSyncs k d status × KeepSpares k d

-- the status that is due for what a file stands for
abbrev pub status_for : {S : Type 0} → Reading S → Status
status_for R.Anew = Done
status_for R.Foreign = Journal Foreign
status_for (R.Broken at) = Journal (Broken at)
status_for (R.Holds v) = Done

-- .. and for the journal's file with these bytes
abbrev pub keep_status : KeepWork → List ℕ → Status
keep_status k bytes = status_for (reading_of accepts_by (start_for k) bytes)
