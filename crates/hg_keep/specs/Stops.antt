-- What a stop leaves of a journal while work is done on its node
use Rattle.std.specs.Prelude.{◌≡◌, ◌⊎◌, ℕ, ◌≤◌, List, Option, Some, None, Result, IsErrOf, IsSome}
use Rattle.std.specs.Option.{ForSome}
use Rattle.hg_io.specs.FileView.{FileView, IsSynced, Leaves, Stays}
use Rattle.hg_life.specs.Members.{MemberList}
use Rattle.hg_life.specs.NodeView.{NodeView, Start}
use Rattle.hg_life.specs.Signing.{Accepts}
use Rattle.hg_journal.specs.Journal.{journal}
use Rattle.hg_journal.specs.Opening.{SyncsFirst}
use Rattle.hg_journal.specs.Stored.{StoredView, StoresWritten}
use Rattle.hg_journal.specs.Writing.{LeavesOnly}
use Rattle.hg_journal.specs.declared.errors.OpenError.{OpenError}
use Rattle.hg_journal.specs.declared.errors.OpenError.TheVariants.{Disk, Memory, Foreign, Broken}
use Rattle.hg_keep.specs.Keeping.{IsKept}
use Rattle.hg_keep.specs.declared.kept.KeepReport.{KeepReport}

-- the journal of a node of which this is so
abbrev pub KeepsSome : {K : Type 0} → (K → Accepts) → Start K → (NodeView K → Type 0) → List ℕ → Type 0
KeepsSome {K} accepts start Is left = (w : NodeView K) × Is w × (journal accepts start left ≡ Some w)

-- from old to new, and still at new, a stop leaves such a journal
pub record StopsLeave {K : Type 0} (accepts : K → Accepts) (start : Start K) (Is : NodeView K → Type 0) (old new : FileView) : Type 0 where
  pub meanwhile : Leaves old new (KeepsSome accepts start Is)
  pub now : LeavesOnly new (KeepsSome accepts start Is)

-- so it is of the node that was there, where the disk tells the file
abbrev pub StopsLeaveOf : {K : Type 0} → (K → Accepts) → (NodeView K → NodeView K → Type 0) → Option (NodeView K) → FileView → FileView → Type 0
StopsLeaveOf accepts comes node old new = ForSome node (λ v. IsSome old.reads → StopsLeave accepts v.start (comes v) old new)

-- the node that is there came so of the one that was, and began as it did
abbrev pub CameOf : {K : Type 0} → (NodeView K → NodeView K → Type 0) → Option (NodeView K) → Option (NodeView K) → Type 0
CameOf {K} Comes first node = ForSome first (λ v. (w : NodeView K) × (node ≡ Some w) × (w.start ≡ v.start) × Comes v w)

-- work that began at the file `old` with a node, and is in part staged: the node that is written came so of it, and the one that is
-- there; the file is now the journal of the one that is written; and a stop since leaves that of one that came so
pub record IsUnderWay {K : Type 0} (accepts : K → Accepts) (Comes : NodeView K → NodeView K → Type 0) (first : Option (NodeView K)) (old new : FileView) (stored : StoredView K) : Type 0 where
  pub stores : StoresWritten accepts new stored
  pub written : CameOf Comes first stored.written
  pub node : CameOf Comes first stored.node
  pub stops : StopsLeaveOf accepts Comes first old new

-- a step of such work, after which the file is this: the node that is written is the one that was, or the one that was there
pub record MovesOn {K : Type 0} (accepts : K → Accepts) (new : FileView) (was is : StoredView K) : Type 0 where
  pub stores : StoresWritten accepts new is
  pub written : (is.written ≡ was.written) ⊎ (is.written ≡ was.node)

-- room was made for a change more
pub record MadeRoom {K : Type 0} (accepts : K → Accepts) (new : FileView) (was is : StoredView K) : Type 0 where
  pub moves : MovesOn accepts new was is
  pub node : is.node ≡ was.node
  pub room : is.pending ≤ 64000

-- ---- from the opening on

-- the node begins so, and the file's journal is its, where the disk tells it
pub record Begins {K : Type 0} (accepts : K → Accepts) (start : Start K) (file : FileView) (v : NodeView K) : Type 0 where
  pub begun : v.start ≡ start
  pub keeps : ForSome file.reads (λ bytes. journal accepts start bytes ≡ Some v)

-- the file's journal is the node's, and a stop leaves the file as it reads
pub record Stores {K : Type 0} (accepts : K → Accepts) (start : Start K) (file : FileView) (w : NodeView K) : Type 0 where
  pub synced : IsSynced file
  pub keeps : ForSome file.reads (λ bytes. journal accepts start bytes ≡ Some w)

-- where these bytes are a node's journal, a stop leaves that of one on the way from a first sync on
abbrev pub SyncsOnTheWay : {K : Type 0} → (K → Accepts) → Start K → (NodeView K → NodeView K → Type 0) → FileView → FileView → List ℕ → Type 0
SyncsOnTheWay {K} accepts start comes old new file =
    (v : NodeView K) → journal accepts start file ≡ Some v → SyncsFirst old new (KeepsSome accepts start (comes v))

-- so it is of the file, where the disk tells it; or the disk failed before that, and nothing was written
abbrev pub SyncsWayOrFails : {K T : Type 0} → (K → Accepts) → Start K → (NodeView K → NodeView K → Type 0) → FileView → FileView → Result T OpenError → Type 0
SyncsWayOrFails accepts start comes old new r = ForSome old.reads (SyncsOnTheWay accepts start comes old new) ⊎ (IsErrOf r Disk × Stays old new)

-- a file that is refused stays as it was
abbrev pub StaysIfRefused : OpenError → FileView → FileView → Type 0
StaysIfRefused Disk old new = Unit {0}
StaysIfRefused Memory old new = Unit {0}
StaysIfRefused Foreign old new = Stays old new
StaysIfRefused (Broken at) old new = Stays old new

-- a file that is not the journal of such a node, or a broken one, stays as it was, whatever is answered
abbrev pub SparesOthers : {K : Type 0} → (K → Accepts) → Start K → FileView → FileView → Type 0
SparesOthers accepts start old new = ForSome old.reads (λ file. journal accepts start file ≡ None → Stays old new)

-- what came of the work is that of the node with which the file before begins, and the file after is the journal of the node then
abbrev pub KeepsTask : {K : Type 0} → (K → Accepts) → MemberList → Start K → List (List ℕ) → Option ℕ → FileView → FileView → KeepReport → Type 0
KeepsTask {K} accepts members start events time old new kept =
    (v w : NodeView K) × Begins accepts start old v × IsKept accepts members events time v kept w × Stores accepts start new w
