-- Changes of a node that stand in memory alone: they are staged, until they are stored at once.
use Rattle.std.specs.Prelude.{◌≡◌, ◌↔◌, ℕ, ◌+◌, ◌*◌, ◌<◌, ◌≤◌, List, [], ◌∷◌, ◌++◌, length, get_or, slice_get, take, fold, Option, Some, None, Result, IsErrOf, IsSome}
use Rattle.std.specs.Option.{ForSome}
use Rattle.hg_io.specs.FileView.{FileView}
use Rattle.hg_io.specs.declared.disk.Disk as disk
use Rattle.hg_life.specs.Calls.{put_answer}
use Rattle.hg_life.specs.NodeView.{NodeView, node_rows}
use Rattle.hg_life.specs.Signing.{Accepts}
use Rattle.hg_life.specs.Spelling.{spelling}
use Rattle.hg_life.specs.declared.answers.PutAnswer.{PutAnswer}
use Rattle.hg_node.specs.Puts.{WouldAccept, after_put}
use Rattle.hg_journal.specs.Batches.{IsPending, joined}
use Rattle.hg_journal.specs.Faults.{DiskFrame, IsFaultCounted}
use Rattle.hg_journal.specs.Records.{spelled}
use Rattle.hg_journal.specs.Stored.{IsNear, StopsKeepOne, StoredView, StoresNode, node_at}
use Rattle.hg_journal.specs.declared.errors.StoreError.{StoreError}
use Rattle.hg_journal.specs.declared.errors.StoreError.TheVariants.{Disk, Closed}

-- these records lead to a node from what it was after so many changes, and a closed gate at this place is near that
pub record IsStaged {K : Type 0} (accepts : K → Accepts) (written gate : ℕ) (records : List ℕ) (w : NodeView K) : Type 0 where
  pub within : written ≤ length w.history
  pub near : IsNear gate (node_at written w)
  pub fits : length records < 65539
  pub pending : IsPending accepts (node_at written w) records w

-- the record of the event at this place, which a node has made, joins these
abbrev pub AddsMade : {K : Type 0} → NodeView K → ℕ → List ℕ → List ℕ → Type 0
AddsMade node place old new =
    ForSome (slice_get (node_rows node) place) (λ row. (length (spelling row) ≤ 1345) × (new ≡ joined old (spelled 2 (spelling row))))

-- what a call tells that stages at most so many changes, beside its answer: it does not come near the disk, a closed node stays
-- closed and another one open, and what is written stays
pub record StageFrame {T K : Type 0} (count : ℕ) (r : Result T StoreError) (old new : StoredView K) : Type 0 where
  pub closed : IsErrOf r Closed ↔ (old.node ≡ None)
  pub never : IsErrOf r Disk → ⊥
  pub shut : (old.node ≡ None) ↔ (new.node ≡ None)
  pub written : new.written ≡ old.written
  pub few : new.pending ≤ old.pending + 1349 * count
  pub name : new.name ≡ old.name
  pub gate : new.gate ≡ old.gate

-- what a call tells that stores what is staged, beside its answer: when it is closed and closes, that a closed node stays closed,
-- that nothing is done where no change is to be stored, that the file is the node's journal then, and the disk's frame
pub record StoreFrame {T K A : Type 0} (accepts : K → Accepts) (D : disk.Ghosts A) (r : Result T StoreError) (old new : StoredView K) (before after : A) : Type 0 where
  pub closed : IsErrOf r Closed ↔ (old.node ≡ None)
  pub closes : IsErrOf r Disk ↔ (IsSome old.node × (new.node ≡ None))
  pub shut : old.node ≡ None → new.node ≡ None
  pub idle : new.node ≡ old.written → (new ≡ old) × (after ≡ before)
  pub stored : StoresNode accepts (D.file after) new
  pub name : new.name ≡ old.name
  pub frame : DiskFrame D new.name before after
  pub cause : IsFaultCounted r Disk (D.faults before) (D.faults after) old.name

-- a stop leaves the node that was written, or the one that was there with all that is staged
abbrev pub StopsKeepStaged : {K : Type 0} → (K → Accepts) → FileView → FileView → StoredView K → Type 0
StopsKeepStaged accepts old new stored = StopsKeepOne accepts old new stored.written (λ v w. stored.node ≡ Some w)

-- ---- putting events

-- a node and the answers so far once one event more was put
abbrev pub put_one : {K : Type 0} → (K → Accepts) → NodeView K × List PutAnswer → List ℕ → NodeView K × List PutAnswer
put_one accepts so_far bytes = (after_put accepts so_far.0 bytes, so_far.1 ++ put_answer accepts so_far.0 bytes ∷ [])

-- a node once these were put to it, one after the other, and what was answered to each
abbrev pub puts : {K : Type 0} → (K → Accepts) → NodeView K → List (List ℕ) → NodeView K × List PutAnswer
puts accepts v events = fold (put_one accepts) (v, []) events

-- these are the answers to as many first ones of the events, and w is the node after these
pub record PutsTo {K : Type 0} (accepts : K → Accepts) (v : NodeView K) (events : List (List ℕ)) (answers : List PutAnswer) (w : NodeView K) : Type 0 where
  pub within : length answers ≤ length events
  pub node : w ≡ (puts accepts v (take (length answers) events)).0
  pub given : answers ≡ (puts accepts v (take (length answers) events)).1

-- so it is of the node that was there and the one that is
abbrev pub PutsFront : {K : Type 0} → (K → Accepts) → Option (NodeView K) → List (List ℕ) → List PutAnswer → Option (NodeView K) → Type 0
PutsFront {K} accepts old events answers new = ForSome old (λ v. (w : NodeView K) × (new ≡ Some w) × PutsTo accepts v events answers w)

-- the event behind those that were answered would be accepted, so that memory is needed for it
abbrev pub NextIsAccepted : {K : Type 0} → (K → Accepts) → List (List ℕ) → List PutAnswer → NodeView K → Type 0
NextIsAccepted accepts events answers w =
    (length answers < length events) × WouldAccept accepts w (get_or events (length answers) [])

-- a node comes of another by some first ones of these events
abbrev pub ComesOfPuts : {K : Type 0} → (K → Accepts) → List (List ℕ) → NodeView K → NodeView K → Type 0
ComesOfPuts accepts events v w = (n : ℕ) × (n ≤ length events) × (w ≡ (puts accepts v (take n events)).0)

-- a stop leaves the node that was there or one that came so: the one that is there then, if one is
abbrev pub StopsKeepPuts : {K : Type 0} → (K → Accepts) → List (List ℕ) → FileView → FileView
    → Option (NodeView K) → Option (NodeView K) → Type 0
StopsKeepPuts accepts events old new was is =
    StopsKeepOne accepts old new was (λ v w. ComesOfPuts accepts events v w × ForSome is (λ x. x ≡ w))
