-- A batch: records that stand one behind the other, and are stored at once.
use Rattle.std.specs.Prelude.{◌≡◌, ◌⊎◌, ℕ, ◌+◌, ◌*◌, ◌<◌, ◌≤◌, List, [], ◌∷◌, ◌++◌, length, IsSome}
use Rattle.hg_io.specs.FileView.{FileView}
use Rattle.hg_life.specs.NodeView.{NodeView}
use Rattle.hg_life.specs.Signing.{Accepts}
use Rattle.hg_journal.specs.Journal.{next_node}
use Rattle.hg_journal.specs.Places.{Leads}
use Rattle.hg_journal.specs.Reading.{Next}
use Rattle.hg_journal.specs.Stored.{IsNear, IsStored, StopsKeep}

-- a batch with one record more, behind an open gate; the first one has none, since its gate stands in the file already
abbrev pub joined : List ℕ → List ℕ → List ℕ
joined [] record_bytes = record_bytes
joined (byte ∷ bytes) record_bytes = byte ∷ (bytes ++ 1 ∷ record_bytes)

-- a file that leads to s leads to t with these bytes behind it, where an open gate stands between
pub record IsBatch {S : Type 0} (next : Next S) (s : S) (bytes : List ℕ) (t : S) : Type 0 where
  pub leads : (first : S) (head front : List ℕ) (gate : ℕ) → (gate ≡ 0 → ⊥) → Leads next first head front s
      → Leads next first head (front ++ gate ∷ bytes) t

-- a batch that leads from the node v to w: it has a record, begins as v did, and has a change for each record
pub record BatchLeads {K : Type 0} (accepts : K → Accepts) (v : NodeView K) (bytes : List ℕ) (w : NodeView K) : Type 0 where
  pub begins : w.start ≡ v.start
  pub some : 0 < length bytes
  pub batch : IsBatch (next_node accepts) v bytes w
  pub grown : 65539 * length v.history + (1 + length bytes) ≤ 65539 * length w.history

-- what is not stored yet of the node w, where v is: a batch that leads there, or nothing
abbrev pub IsPending : {K : Type 0} → (K → Accepts) → NodeView K → List ℕ → NodeView K → Type 0
IsPending accepts v bytes w = ((bytes ≡ []) × (w ≡ v)) ⊎ BatchLeads accepts v bytes w

-- ---- storing a batch

-- where it leads from v to w, storing it makes of a journal of v one of w
abbrev pub BatchStores : {K : Type 0} → (K → Accepts) → List ℕ → FileView → FileView → ℕ → ℕ → Type 0
BatchStores {K} accepts bytes old new gate next =
    (v w : NodeView K) → BatchLeads accepts v bytes w → IsStored accepts old v gate → IsStored accepts new w next

-- .. and a stop meanwhile leaves one of the two
abbrev pub BatchKeeps : {K : Type 0} → (K → Accepts) → List ℕ → FileView → FileView → ℕ → Type 0
BatchKeeps {K} accepts bytes old new gate =
    (v w : NodeView K) → BatchLeads accepts v bytes w → IsStored accepts old v gate → IsSome old.reads → StopsKeep accepts old new v w

-- the same of what is pending, if anything is; the gate stays near the node's changes
abbrev pub PendingStores : {K : Type 0} → (K → Accepts) → List ℕ → FileView → FileView → ℕ → ℕ → Type 0
PendingStores {K} accepts bytes old new gate next =
    (v w : NodeView K) → IsPending accepts v bytes w → IsStored accepts old v gate → IsNear gate v
    → IsStored accepts new w next × IsNear next w

abbrev pub PendingKeeps : {K : Type 0} → (K → Accepts) → List ℕ → FileView → FileView → ℕ → Type 0
PendingKeeps {K} accepts bytes old new gate =
    (v w : NodeView K) → IsPending accepts v bytes w → IsStored accepts old v gate → IsSome old.reads → StopsKeep accepts old new v w
