-- What a run of the program over files in memory may come to
use Rattle.std.specs.Prelude.{◌≡◌, ℕ, List, [], Some, String, take}
use Rattle.std.specs.Global.{Global}
use Rattle.hg_io.specs.DiskState.{DiskState, file_of}
use Rattle.hg_io.specs.Files.{Files}
use Rattle.hg_io.specs.ShelfState.{ShelfState, faults_at}
use Rattle.hg_io.specs.SinkState.{SinkState}
use Rattle.hg_check.specs.declared.outcome.Outcome.{Outcome}
use Rattle.hg_top.specs.declared.status.Status.{Status}
use Rattle.hg_top.specs.Commands.{work_for}
use Rattle.hg_top.specs.Course.{Course, DiskCourse, ShelfCourse, SinkCourse}
use Rattle.hg_top.specs.Ends.{Ends}
use Rattle.hg_top.specs.Printing.{status_code, status_line}

-- what became of a disk in memory
abbrev pub disk_run : DiskState → DiskState → DiskCourse
disk_run before after = record {
  before = file_of before;
  after = file_of after;
  faults_before = λ name. before.faults;
  faults_after = λ name. after.faults;
  same = after ≡ before;
}

-- what became of a shelf in memory that has these files
abbrev pub shelf_run : Files → ShelfState → ShelfState → ShelfCourse
shelf_run files before after = record {
  holds = Some files;
  starts_before = before.starts;
  starts_after = after.starts;
  faults_before = faults_at before;
  faults_after = faults_at after;
}

-- what became of a sink in memory
abbrev pub sink_run : SinkState → SinkState → SinkCourse
sink_run before after = record {
  before = Some before.bytes;
  after = Some after.bytes;
  faults_before = before.faults;
  faults_after = after.faults;
  same = after ≡ before;
}

-- what a run has around it: a shelf, standard output and a disk, all in memory
pub record Outside : Type 0 where
  pub shelf : ShelfState
  pub out : SinkState
  pub disk : DiskState

-- the course of a run over these files
abbrev pub course_over : Files → Outside → Outside → Course
course_over files before after =
    record { shelf = shelf_run files before.shelf after.shelf; out = sink_run before.out after.out; disk = disk_run before.disk after.disk }

-- with these words, its name first, where these files lie, the work that they ask for may end so, and these bytes stand on
-- standard output
pub record MayEnd (words : List (String Global)) (files : Files) (status : Status) (written : List ℕ) : Type 0 where
  pub before : Outside
  pub after : Outside
  pub fresh : before.out.bytes ≡ []
  pub ends : Ends (work_for words) (course_over files before after) status
  pub wrote : after.out.bytes ≡ written

-- these bytes stand on standard error: the line of this status, or a front of it, where its writing failed
abbrev pub IsFrontOfLine : Status → List ℕ → Type 0
IsFrontOfLine status told = (k : ℕ) × (told ≡ take k (status_line status))

-- it may come to this outcome
pub record MayComeTo (words : List (String Global)) (files : Files) (o : Outcome) : Type 0 where
  pub status : Status
  pub code : o.status ≡ status_code status
  pub ends : MayEnd words files status o.stdout.now
  pub told : IsFrontOfLine status o.stderr.now
