-- What a task on the node of a member comes to
use Rattle.std.specs.Prelude.{Option, Result}
use Rattle.std.specs.Option.{ForSome}
use Rattle.hg_io.specs.FileView.{FileView}
use Rattle.hg_life.specs.Members.{MemberList}
use Rattle.hg_life.specs.NodeView.{NodeView, Start, start_of}
use Rattle.hg_life.specs.Signing.{Accepts}
use Rattle.hg_journal.specs.Opening.{IsWrong}
use Rattle.hg_journal.specs.declared.errors.OpenError.{OpenError}
use Rattle.hg_keep.specs.Keeping.{IsOnTheWay, KeptOf}
use Rattle.hg_keep.specs.Stops.{KeepsTask, SyncsWayOrFails}
use Rattle.hg_keep.specs.declared.keeping.Task.{Task}
use Rattle.hg_keep.specs.declared.kept.KeepReport.{KeepReport}

-- what the node begins with
abbrev pub start_for : {K : Type 0} → MemberList → Task → K → Start K
start_for members task keys = start_of members task.own keys

-- a node on the way of the task
abbrev pub IsOnWayOf : {K : Type 0} → (K → Accepts) → Task → NodeView K → NodeView K → Type 0
IsOnWayOf accepts task = IsOnTheWay accepts task.events.now task.time

-- what came of it, and the node then
abbrev pub IsDone : {K : Type 0} → (K → Accepts) → MemberList → Task → Option (NodeView K) → Option (NodeView K) → KeepReport → Type 0
IsDone accepts members task old new kept = KeptOf accepts members task.events.now task.time old new kept

-- .. told of the file with its journal
abbrev pub DoesTask : {K : Type 0} → (K → Accepts) → MemberList → Task → K → FileView → FileView → KeepReport → Type 0
DoesTask accepts members task keys old new kept =
    KeepsTask accepts members (start_for members task keys) task.events.now task.time old new kept

-- the file is refused so, where the disk tells it
abbrev pub FileIsRefused : {K : Type 0} → (K → Accepts) → Start K → FileView → OpenError → Type 0
FileIsRefused accepts start file error = ForSome file.reads (λ bytes. IsWrong accepts start bytes error)

-- what a stop leaves of it meanwhile
abbrev pub SyncsTask : {K T : Type 0} → (K → Accepts) → Start K → Task → FileView → FileView → Result T OpenError → Type 0
SyncsTask accepts start task old new r = SyncsWayOrFails accepts start (IsOnWayOf accepts task) old new r
