-- What opening a journal answers, and what stops leave meanwhile.
use Rattle.std.specs.Prelude.{◌≡◌, ◌⊎◌, ℕ, ◌≤◌, List, drop, take, Option, Some, Result, Ok, Err, IsErrOf}
use Rattle.std.specs.Option.{ForSome}
use Rattle.hg_io.specs.FileView.{FileView, Leaves, Stays}
use Rattle.hg_life.specs.NodeView.{NodeView, Start}
use Rattle.hg_life.specs.Signing.{Accepts}
use Rattle.hg_node.specs.Replay.{new_node}
use Rattle.hg_journal.specs.Ahead.{IsRecordAt}
use Rattle.hg_journal.specs.Journal.{NeedsMemory, head_of, journal, next_node, reading_of}
use Rattle.hg_journal.specs.Places.{Leads}
use Rattle.hg_journal.specs.Reading as R
use Rattle.hg_journal.specs.Writing.{AnewCases}
use Rattle.hg_journal.specs.declared.errors.OpenError.{OpenError}
use Rattle.hg_journal.specs.declared.errors.OpenError.TheVariants.{Disk, Memory, Foreign, Broken}

-- from an age on that lies between the two a stop leaves what has P; before, what one might have left at old, or that too
pub record SyncsFirst (old new : FileView) (P : List ℕ → Type 0) : Type 0 where
  pub since : ℕ
  pub from : old.age ≤ since
  pub to : since ≤ new.age
  pub after : (left : List ℕ) → new.left_since since left → P left
  pub before : Leaves old new (λ left. old.may_leave left ⊎ P left)

-- where these bytes are a journal, a stop leaves its node all the time from old to new
abbrev pub LeavesNode : {K : Type 0} → (K → Accepts) → Start K → FileView → FileView → List ℕ → Type 0
LeavesNode {K} accepts start old new file =
    (v : NodeView K) → journal accepts start file ≡ Some v → Leaves old new (λ left. journal accepts start left ≡ Some v)

-- so it does of the file, where the disk tells it
abbrev pub LeavesJournal : {K : Type 0} → (K → Accepts) → Start K → FileView → FileView → Type 0
LeavesJournal accepts start old new = ForSome old.reads (LeavesNode accepts start old new)

-- where these bytes are a journal, a stop leaves its node from a sync on
abbrev pub SyncsNode : {K : Type 0} → (K → Accepts) → Start K → FileView → FileView → List ℕ → Type 0
SyncsNode {K} accepts start old new file =
    (v : NodeView K) → journal accepts start file ≡ Some v → SyncsFirst old new (λ left. journal accepts start left ≡ Some v)

-- so it does of the file, where the disk tells it
abbrev pub SyncsJournal : {K : Type 0} → (K → Accepts) → Start K → FileView → FileView → Type 0
SyncsJournal accepts start old new = ForSome old.reads (SyncsNode accepts start old new)

-- .. or the disk failed before that, and nothing was written
abbrev pub SyncsOrFails : {K T : Type 0} → (K → Accepts) → Start K → FileView → FileView → Result T OpenError → Type 0
SyncsOrFails accepts start old new r = SyncsJournal accepts start old new ⊎ (IsErrOf r Disk × Stays old new)

-- a call started no file and wrote to none: what was started before still is
pub record StartsNone (was is : List ℕ → Type 0) (old new : FileView) : Type 0 where
  pub still : (other : List ℕ) → was other → is other
  pub stays : Stays old new

-- the file of this name is started, and no other since; or the disk failed before that was done
abbrev pub StartsOrFails : {T : Type 0} → (List ℕ → Type 0) → (List ℕ → Type 0) → List ℕ → FileView → FileView
    → Result T OpenError → Type 0
StartsOrFails was is name old new r = is name ⊎ (IsErrOf r Disk × StartsNone was is old new)

-- a file is written to only if it is to be made anew, where the disk tells it
abbrev pub WritesOnlyAnew : List ℕ → FileView → FileView → Type 0
WritesOnlyAnew head old new = ForSome old.reads (λ file. (AnewCases head file → ⊥) → Stays old new)

-- a file that was not opened stays as it was, unless the disk failed
abbrev pub StaysUnlessDisk : OpenError → FileView → FileView → Type 0
StaysUnlessDisk Disk old new = Unit {0}
StaysUnlessDisk Memory old new = Stays old new
StaysUnlessDisk Foreign old new = Stays old new
StaysUnlessDisk (Broken at) old new = Stays old new

-- what a file is where opening it went wrong
abbrev pub IsWrong : {K : Type 0} → (K → Accepts) → Start K → List ℕ → OpenError → Type 0
IsWrong accepts start file Disk = Unit {0}
IsWrong accepts start file Memory = Unit {0}
IsWrong accepts start file Foreign = reading_of accepts start file ≡ R.Foreign
IsWrong accepts start file (Broken at) = reading_of accepts start file ≡ R.Broken at

-- the file was found to be the journal of this node, or what the error says
abbrev pub Finds : {K T : Type 0} → (K → Accepts) → Start K → NodeView K → Result T OpenError → List ℕ → Type 0
Finds accepts start v (Ok s) file = journal accepts start file ≡ Some v
Finds accepts start v (Err e) file = IsWrong accepts start file e

-- the file was found to be the journal of the node that is there, or what the error says
abbrev pub Opens : {K T : Type 0} → (K → Accepts) → Start K → (T → Option (NodeView K)) → Result T OpenError → List ℕ → Type 0
Opens accepts start node_of (Ok s) file = journal accepts start file ≡ node_of s
Opens accepts start node_of (Err e) file = IsWrong accepts start file e

-- records lead to a node, and memory is needed for the one that comes next in the file
pub record NeedsMemoryIn {K : Type 0} (accepts : K → Accepts) (start : Start K) (file : List ℕ) : Type 0 where
  pub node : NodeView K
  pub at : ℕ
  pub kind : ℕ
  pub body : List ℕ
  pub leads : Leads (next_node accepts) (new_node start) (head_of start) (take at file) node
  pub here : IsRecordAt (drop at file) kind body
  pub needs : NeedsMemory accepts node kind body
