-- A node whose changes are kept in a journal.
use Rattle.std.specs.Prelude.{◌≡◌, ◌⊎◌, ℕ, ◌+◌, ◌*◌, ◌≤◌, List, length, take, Option, None, Some, IsSome}
use Rattle.std.specs.Option.{ForSome}
use Rattle.hg_io.specs.FileView.{FileView, IsSynced, Leaves}
use Rattle.hg_model.specs.Shares.{Share}
use Rattle.hg_life.specs.NodeView.{NodeView, with_changes}
use Rattle.hg_life.specs.Signing.{Accepts}
use Rattle.hg_life.specs.declared.answers.MakeAnswer.{MakeAnswer}
use Rattle.hg_life.specs.Calls.{IsMaking, make_draft, publish_changes}
use Rattle.hg_node.specs.Puts.{after_put}
use Rattle.hg_node.specs.Restore.{after_restore}
use Rattle.hg_journal.specs.Journal.{JournalEndsAt, Keeps, KeepsEither}
use Rattle.hg_journal.specs.Writing.{LeavesOnly}

-- the end of a journal: its file's name, the place of the closed gate, and the records that are to be stored there
pub record TailView : Type 0 where
  pub name : List ℕ
  pub gate : ℕ
  pub records : List ℕ

-- the node, or none once the disk has failed; the one whose journal the file is, which lacks what is staged; how many bytes the
-- records of that have; and the end of the journal
pub record StoredView (K : Type 0) : Type 0 where
  pub node : Option (NodeView K)
  pub written : Option (NodeView K)
  pub pending : ℕ
  pub name : List ℕ
  pub gate : ℕ

-- what a node was after so many of its changes
abbrev pub node_at : {K : Type 0} → ℕ → NodeView K → NodeView K
node_at n v = record { start = v.start; history = take n v.history }

-- the file is the node's journal, up to a closed gate at this place, and a stop leaves it as it reads; where the disk tells it
pub record IsStored {K : Type 0} (accepts : K → Accepts) (file : FileView) (v : NodeView K) (gate : ℕ) : Type 0 where
  pub synced : IsSynced file
  pub keeps : ForSome file.reads (Keeps accepts v)
  pub place : ForSome file.reads (JournalEndsAt accepts v.start v gate)

-- so it is of the node that is written
abbrev pub StoresWritten : {K : Type 0} → (K → Accepts) → FileView → StoredView K → Type 0
StoresWritten accepts file stored = ForSome stored.written (λ v. IsStored accepts file v stored.gate)

-- so it is of the node that is there, and nothing is staged
pub record StoresNode {K : Type 0} (accepts : K → Accepts) (file : FileView) (stored : StoredView K) : Type 0 where
  pub all : stored.written ≡ stored.node
  pub none : stored.pending ≡ 0
  pub kept : ForSome stored.node (λ v. IsStored accepts file v stored.gate)

-- a closed gate behind so many changes is not further than this
abbrev pub IsNear : {K : Type 0} → ℕ → NodeView K → Type 0
IsNear gate v = gate ≤ 9 + 65539 * length v.history

-- ---- what stops leave

-- from old to new, and still at new, a stop leaves a journal of v or of w
pub record StopsKeep {K : Type 0} (accepts : K → Accepts) (old new : FileView) (v w : NodeView K) : Type 0 where
  pub meanwhile : Leaves old new (KeepsEither accepts v w)
  pub now : LeavesOnly new (KeepsEither accepts v w)

-- so it does of the node that was there and of one that comes of it so, where the disk tells the file
abbrev pub StopsKeepOne : {K : Type 0} → (K → Accepts) → FileView → FileView
    → Option (NodeView K) → (NodeView K → NodeView K → Type 0) → Type 0
StopsKeepOne {K} accepts old new node comes =
    ForSome node (λ v. IsSome old.reads → (w : NodeView K) × comes v w × StopsKeep accepts old new v w)

-- .. by these bytes that are put
abbrev pub StopsKeepPut : {K : Type 0} → (K → Accepts) → List ℕ → FileView → FileView → Option (NodeView K) → Type 0
StopsKeepPut accepts bytes old new node = StopsKeepOne accepts old new node (λ v w. w ≡ after_put accepts v bytes)

-- .. by these bytes that come back
abbrev pub StopsKeepRestored : {K : Type 0} → (K → Accepts) → List ℕ → FileView → FileView → Option (NodeView K) → Type 0
StopsKeepRestored accepts bytes old new node = StopsKeepOne accepts old new node (λ v w. w ≡ after_restore accepts v bytes)

-- the node once what this share decides in so many rows is marked
abbrev pub after_marks : {K : Type 0} → NodeView K → ℕ → Share → NodeView K
after_marks v len share = with_changes v (publish_changes v len share)

-- .. by what this share marks in so many rows
abbrev pub StopsKeepMarks : {K : Type 0} → (K → Accepts) → ℕ → Share → FileView → FileView → Option (NodeView K) → Type 0
StopsKeepMarks accepts len share old new node =
    StopsKeepOne accepts old new node (λ v w. w ≡ after_marks v len share)

-- a node comes of another by an event that it makes so, if it makes any
abbrev pub ComesOfMaking : {K : Type 0} → (K → Accepts) → List (List ℕ) → ℕ → List ℕ → NodeView K → NodeView K → Type 0
ComesOfMaking accepts others time payload v w =
    (w ≡ v) ⊎ ((a : MakeAnswer) × IsMaking accepts v others time payload a w)

-- .. by an event that is made so: the one that is there then, if there is a node then
abbrev pub StopsKeepMaking : {K : Type 0} → (K → Accepts) → List (List ℕ) → ℕ → List ℕ → FileView → FileView
    → StoredView K → StoredView K → Type 0
StopsKeepMaking accepts others time payload old new was is =
    StopsKeepOne accepts old new was.node
    (λ v w. ComesOfMaking accepts others time payload v w × ForSome is.node (λ x. x ≡ w))

-- nothing refuses such an event before it is signed
abbrev pub IsDrafted : {K : Type 0} → List (List ℕ) → List ℕ → NodeView K → Type 0
IsDrafted others payload v = make_draft v others payload ≡ None

-- this is the answer to making an event, and the node that is there is the one after it
abbrev pub MakesNode : {K : Type 0} → (K → Accepts) → List (List ℕ) → ℕ → List ℕ
    → MakeAnswer → Option (NodeView K) → NodeView K → Type 0
MakesNode {K} accepts others time payload a node v =
    (w : NodeView K) × (node ≡ Some w) × IsMaking accepts v others time payload a w
