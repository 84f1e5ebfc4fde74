-- The journal of a node: what its records tell, and the node that comes again from the bytes of a file.
use Rattle.std.specs.Prelude.{◌≡◌, ◌⊎◌, ℕ, ◌<◌, ◌≤◌, nat_eq, Bool, List, ◌++◌, length, drop, codes, Option, Some, None, option_and_then, if◌then◌else◌}
use Rattle.std.specs.Int.{w16, w32, from_be_bytes, to_be_bytes}
use Rattle.std.specs.Option.{ForSome}
use Rattle.hg_io.specs.FileView.{FileView}
use Rattle.hg_model.specs.Stakes.{member_count}
use Rattle.hg_life.specs.NodeView.{NodeView, Start, node_rows}
use Rattle.hg_life.specs.Signing.{Accepts}
use Rattle.hg_node.specs.Puts.{WouldAccept}
use Rattle.hg_node.specs.Restore.{WouldRestore}
use Rattle.hg_node.specs.Replay.{StoredChange, new_node, replay_one}
use Rattle.hg_node.specs.Replay.StoredChange.{StoredTook, StoredMade, StoredMarked}
use Rattle.hg_journal.specs.Places.{IsAt}
use Rattle.hg_journal.specs.Reading.{Reading, reading, state_in}

-- the head of a file behind its first gate: four letters, how many members there are, and whose node it is
abbrev pub head_of : {K : Type 0} → Start K → List ℕ
head_of start = codes "HGJ1" ++ (to_be_bytes w16 (member_count start.members) ++ to_be_bytes w16 start.own)

-- the body of a record of marks: in how many first rows, which share, and of how many
abbrev pub marked_body : ℕ → ℕ → ℕ → List ℕ
marked_body len k m = to_be_bytes w32 len ++ (to_be_bytes w32 k ++ to_be_bytes w32 m)

-- what such a body tells
abbrev pub marked_in : List ℕ → Option StoredChange
marked_in body =
    if nat_eq (length body) 12
    then Some (StoredMarked (from_be_bytes w32 body) (from_be_bytes w32 (drop 4 body)) (from_be_bytes w32 (drop 8 body)))
    else None

-- it tells marks in rows that are there, by a share that there is
abbrev pub CanMark : {K : Type 0} → NodeView K → List ℕ → Type 0
CanMark v body =
    (length body ≡ 12) × (from_be_bytes w32 body ≤ length (node_rows v))
    × (from_be_bytes w32 (drop 4 body) < from_be_bytes w32 (drop 8 body))

-- memory is needed for a record of this kind: its event is accepted, or there can be such marks
abbrev pub NeedsMemory : {K : Type 0} → (K → Accepts) → NodeView K → ℕ → List ℕ → Type 0
NeedsMemory accepts v kind body =
    ((kind ≡ 1) × WouldAccept accepts v body) ⊎ (((kind ≡ 2) × WouldRestore accepts v body) ⊎ ((kind ≡ 3) × CanMark v body))

-- what a record of this kind tells: an event that was taken, one that was made, or marks
abbrev pub change_in : ℕ → List ℕ → Option StoredChange
change_in kind body =
    if nat_eq kind 1 then Some (StoredTook body)
    else if nat_eq kind 2 then Some (StoredMade body)
    else if nat_eq kind 3 then marked_in body else None

-- the node once that has come again, if it changes it
unfoldable pub next_node : {K : Type 0} → (K → Accepts) → NodeView K → ℕ → List ℕ → Option (NodeView K)
next_node accepts v kind body = option_and_then (replay_one accepts v) (change_in kind body)

-- the node, if something came of what was stored
abbrev pub node_if : {K : Type 0} → Bool → NodeView K → Option (NodeView K)
node_if came v = if came then Some v else None

-- a stored change that comes again makes of a node another one, or changes nothing
abbrev pub ComesAgain : {K : Type 0} → (K → Accepts) → NodeView K → StoredChange → NodeView K → Bool → Type 0
ComesAgain accepts old change new came = replay_one accepts old change ≡ node_if came new

-- what a file stands for, of a node that begins so
abbrev pub reading_of : {K : Type 0} → (K → Accepts) → Start K → List ℕ → Reading (NodeView K)
reading_of accepts start file = reading (next_node accepts) (new_node start) (head_of start) file

-- the node that comes again from it, where it is neither foreign nor broken
abbrev pub journal : {K : Type 0} → (K → Accepts) → Start K → List ℕ → Option (NodeView K)
journal accepts start file = state_in (new_node start) (reading_of accepts start file)

-- the records that lead to this node stand before this place, and a closed gate at it
abbrev pub JournalEndsAt : {K : Type 0} → (K → Accepts) → Start K → NodeView K → ℕ → List ℕ → Type 0
JournalEndsAt accepts start v gate file = IsAt (next_node accepts) (new_node start) (head_of start) v gate file

-- so it is of a file, where the disk tells it
abbrev pub FileEndsAt : {K : Type 0} → (K → Accepts) → Start K → NodeView K → FileView → ℕ → Type 0
FileEndsAt accepts start v file gate = ForSome file.reads (JournalEndsAt accepts start v gate)

-- it is this node
abbrev pub Keeps : {K : Type 0} → (K → Accepts) → NodeView K → List ℕ → Type 0
Keeps accepts v file = journal accepts v.start file ≡ Some v

-- it is one of these two
abbrev pub KeepsEither : {K : Type 0} → (K → Accepts) → NodeView K → NodeView K → List ℕ → Type 0
KeepsEither accepts v w file = Keeps accepts v file ⊎ Keeps accepts w file
