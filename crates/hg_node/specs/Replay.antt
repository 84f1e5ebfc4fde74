-- What is stored of a node's changes, and the node that comes again from it
use Rattle.std.specs.Prelude.{ℕ, ◌<◌, ◌&&◌, nat_le, nat_lt, get_or, Bool, List, [], ◌∷◌, length, fold, Option, Some, None, if◌then◌else◌}
use Rattle.hg_life.specs.Spelling.{spelling}
use Rattle.hg_life.specs.Signing.{Accepts}
use Rattle.hg_life.specs.History.{Change}
use Rattle.hg_life.specs.History.Change.{Took, Made, Marked}
use Rattle.hg_life.specs.NodeView.{NodeView, Start, with_changes, node_rows}
use Rattle.hg_life.specs.Calls.{put_changes, publish_changes}
use Rattle.hg_node.specs.Restore.{restore_changes}

-- the bytes of an event that was taken, or of one that was made; or in how many first rows which share was marked, told by its
-- number and by how many shares there are
pub data StoredChange : Type 0 where
  StoredTook : List ℕ → StoredChange
  StoredMade : List ℕ → StoredChange
  StoredMarked : ℕ → ℕ → ℕ → StoredChange

-- what is stored of a change
abbrev pub stored_of : Change → StoredChange
stored_of (Took row) = StoredTook (spelling row)
stored_of (Made row) = StoredMade (spelling row)
stored_of (Marked len share) = StoredMarked len share.k share.of

-- a share that was marked is one of as many as there are
abbrev pub HasLawfulShare : Change → Type 0
HasLawfulShare (Took row) = Unit {0}
HasLawfulShare (Made row) = Unit {0}
HasLawfulShare (Marked len share) = share.k < share.of

-- what is stored of an event is bytes
abbrev pub HasBytes : StoredChange → Type 0
HasBytes (StoredTook bytes) = (i : ℕ) → get_or bytes i 0 < 256
HasBytes (StoredMade bytes) = (i : ℕ) → get_or bytes i 0 < 256
HasBytes (StoredMarked len k m) = Unit {0}

-- the node with these changes, if there are any
abbrev pub grown_by : {K : Type 0} → NodeView K → List Change → Option (NodeView K)
grown_by v [] = None
grown_by v (e ∷ es) = Some (with_changes v (e ∷ es))

-- there are so many rows, and there is such a share
abbrev pub may_mark : {K : Type 0} → NodeView K → ℕ → ℕ → ℕ → Bool
may_mark v len k m = nat_le len (length (node_rows v)) && nat_lt k m

-- the node once what is stored has come again, if that changes it: bytes are put or restored, and a share is marked again
unfoldable pub replay_one : {K : Type 0} → (K → Accepts) → NodeView K → StoredChange → Option (NodeView K)
replay_one accepts v (StoredTook bytes) = grown_by v (put_changes accepts v bytes)
replay_one accepts v (StoredMade bytes) = grown_by v (restore_changes accepts v bytes)
replay_one accepts v (StoredMarked len k m) =
    if may_mark v len k m then grown_by v (publish_changes v len (record { k = k; «of» = m })) else None

abbrev pub replay_after : {K : Type 0} → (K → Accepts) → Option (NodeView K) → StoredChange → Option (NodeView K)
replay_after accepts None stored = None
replay_after accepts (Some v) stored = replay_one accepts v stored

-- the node once all of these have come again, one after the other
unfoldable pub replay_all : {K : Type 0} → (K → Accepts) → NodeView K → List StoredChange → Option (NodeView K)
replay_all accepts v stored = fold (replay_after accepts) (Some v) stored

-- the node before any change
abbrev pub new_node : {K : Type 0} → Start K → NodeView K
new_node start = record { start = start; history = [] }
