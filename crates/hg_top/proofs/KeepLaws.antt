-- Laws of the work on a node that is kept in a journal
use Rattle.std.proofs.Common.{◌≡◌, ℕ, List, Option, Some, is_some, inl, inr, refl, sym, ◌∙◌, ap, arith, IsErrOf}
use Rattle.std.specs.Prelude.{Result, Ok, Err, ⊤}
use Rattle.std.specs.Option.{ForSome}
use Rattle.hg_io.specs.FileView.{unknown}
use Rattle.hg_io.specs.Printing.{Prints}
use Rattle.hg_io.specs.declared.disk.Disk as disk
use Rattle.hg_io.specs.declared.sink.Sink as sink
use Rattle.hg_io.proofs.Going.{stays_same}
use Rattle.hg_life.specs.Signing.{accepts_by}
use Rattle.hg_journal.specs.Faults.{IsFaultCounted}
use Rattle.hg_journal.specs.Journal.{reading_of}
use Rattle.hg_journal.specs.Opening.{IsWrong}
use Rattle.hg_journal.specs.Reading.{Reading, state_in}
use Rattle.hg_journal.specs.Reading as R
use Rattle.hg_journal.specs.declared.errors.OpenError.{OpenError}
use Rattle.hg_journal.specs.declared.errors.OpenError.TheVariants as open_error
use Rattle.hg_keep.specs.Keeping.{IsOnTheWay}
use Rattle.hg_keep.specs.Stops.{KeepsTask, StaysIfRefused, SyncsWayOrFails}
use Rattle.hg_keep.specs.Text.{kept_text}
use Rattle.hg_keep.specs.declared.kept.KeepReport.{KeepReport}
use Rattle.hg_top.specs.declared.status.JournalFault.{JournalFault}
use Rattle.hg_top.specs.declared.status.JournalFault.TheVariants.{Foreign, Broken}
use Rattle.hg_top.specs.declared.status.Status.{Status}
use Rattle.hg_top.specs.declared.status.Status.TheVariants.{Done, ReadFault, Usage, Members, Own, Script, Events, WriteFault, Memory, Disk, Journal, Proof, Wire}
use Rattle.hg_top.specs.Course.{CountsOn, Course, DiskCourse, HasDiskFault, HasWriteFault, IsIdle, IsStill, SinkCourse, disk_course, no_disk, sink_course}
use Rattle.hg_top.specs.Keeps.{KeepEnds, KeepSpares, KeepSyncs, error_of, keep_status, open_status, start_for, status_for}
use Rattle.hg_top.specs.Work.{KeepWork}
use Rattle.hg_top.specs.Writing.{Gives, status_of}

-- nothing was done to a disk
pub idle_none : IsIdle no_disk
idle_none = (stays_same unknown, λ name. omega arith, tt)

pub idle_disk : {D : Type 0} (W : disk.Ghosts D) (d : D) → IsIdle (disk_course W d d)
idle_disk W d = (stays_same (W.file d), λ name. omega arith, refl)

-- what stays is spared
pub spares_still : (k : KeepWork) (d : DiskCourse) → IsStill d → CountsOn d → KeepSpares k d
spares_still k d still counts = (λ bytes told none. still, ap (λ (o : Option (List ℕ)). is_some o) still.reads, counts)

-- ---- what must come of the work

-- of what is a node's journal the text
text_due : {S : Type 0} (first v : S) (r : Reading S) → state_in first r ≡ Some v → Done ≡ status_for r
text_due first v R.Anew is = refl
text_due first v R.Foreign is = grind arith
text_due first v (R.Broken at) is = grind arith
text_due first v (R.Holds w) is = refl

-- .. and of what is refused just that
pub refused_due : (k : KeepWork) (bytes : List ℕ) (why : JournalFault) → IsWrong accepts_by (start_for k) bytes (error_of why) → Journal why ≡ keep_status k bytes
refused_due k bytes Foreign is = rw is refl
refused_due k bytes (Broken at) is = rw is refl

pub completes_keep : (k : KeepWork) (c : Course) (status : Status) →
    KeepEnds k c.disk c.out status → (HasWriteFault c → ⊥) → (HasDiskFault c.disk k.journal → ⊥) → ForSome c.disk.before.reads (λ bytes. Gives (keep_status k bytes) status)
completes_keep k c Done ends written kept = λ bytes told.
    inl (text_due _ ends.1.1.0 (reading_of accepts_by (start_for k) bytes) (ends.1.1.2.keeps bytes told))
completes_keep k c WriteFault ends written kept = absurd (written ends.0)
completes_keep k c Memory ends written kept = λ bytes told. inr refl
completes_keep k c Disk ends written kept = absurd (kept ends.1)
completes_keep k c (Journal why) ends written kept = λ bytes told. inl (refused_due k bytes why (ends.2 bytes told))
completes_keep k c (ReadFault file) ends written kept = absurd ends
completes_keep k c Usage ends written kept = absurd ends
completes_keep k c (Members refusal) ends written kept = absurd ends
completes_keep k c Own ends written kept = absurd ends
completes_keep k c (Script refusal) ends written kept = absurd ends
completes_keep k c (Events refusal) ends written kept = absurd ends
completes_keep k c (Proof refusal) ends written kept = absurd ends
completes_keep k c (Wire refusal) ends written kept = absurd ends

-- ---- what comes of the work

-- where the disk, memory or the journal stops it
pub stopped : {T : Type 0} (k : KeepWork) (d : DiskCourse) (o : SinkCourse) (r : Result T OpenError) (s : OpenError) →
    r ≡ Err s → o.same → IsFaultCounted r open_error.Disk d.faults_before d.faults_after k.journal →
    ForSome d.before.reads (λ bytes. IsWrong accepts_by (start_for k) bytes s) → StaysIfRefused s d.before d.after → KeepEnds k d o (open_status s)
stopped k d o r open_error.Disk is same cause wrong refused = (same, cause is)
stopped k d o r open_error.Memory is same cause wrong refused = same
stopped k d o r open_error.Foreign is same cause wrong refused = (same, refused, wrong)
stopped k d o r (open_error.Broken at) is same cause wrong refused = (same, refused, wrong)

-- and where its text was written
pub told : {S E : Type 0} (K : sink.Ghosts S) (out written : S) (k : KeepWork) (d : DiskCourse) (kept : KeepReport) (r : Result ⊤ E) →
    KeepsTask accepts_by k.members (start_for k) k.events k.time d.before d.after kept → Prints K out written (kept_text kept) r →
    KeepEnds k d (sink_course K out written) (status_of r)
told K out written k d kept (Ok x) task prints = (kept_text kept, (kept, task, refl), prints.0, prints.1)
told K out written k d kept (Err e) task prints = (prints.1, prints.2, (kept_text kept, (kept, task, refl), prints.0))

-- what a stop of the machine leaves, in both cases
early_by : {T : Type 0} (r : Result T OpenError) (s : OpenError) → r ≡ Err s → IsErrOf r open_error.Disk → s ≡ open_error.Disk
early_by r s is other = grind arith

synced_at : (k : KeepWork) (d : DiskCourse) (s : OpenError) → s ≡ open_error.Disk → IsStill d → KeepSyncs k d (open_status s)
synced_at k d s is still = rw is (inr (tt, still))

pub stopped_synced : {T : Type 0} (k : KeepWork) (d : DiskCourse) (r : Result T OpenError) (s : OpenError) → r ≡ Err s →
    SyncsWayOrFails accepts_by (start_for k) (IsOnTheWay accepts_by k.events k.time) d.before d.after r → KeepSyncs k d (open_status s)
stopped_synced k d r s is (inl syncs) = inl syncs
stopped_synced k d r s is (inr early) = synced_at k d s (early_by r s is early.0) early.1

pub told_synced : (k : KeepWork) (d : DiskCourse) (r : Result KeepReport OpenError) (kept : KeepReport) (status : Status) → r ≡ Ok kept →
    SyncsWayOrFails accepts_by (start_for k) (IsOnTheWay accepts_by k.events k.time) d.before d.after r → KeepSyncs k d status
told_synced k d r kept status is (inl syncs) = inl syncs
told_synced k d r kept status is (inr early) = absurd (let no = sym is ∙ early.0 in grind arith)
