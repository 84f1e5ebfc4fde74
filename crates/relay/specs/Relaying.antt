-- What a relay does, from the opening of its journal on
use Rattle.std.specs.Prelude.{◌≡◌, ◌⊎◌, ℕ, Bool, List, Some, None, IfSome, Result, IsErrOf, is_some}
use Rattle.std.specs.Option.{ForSome}
use Rattle.hg_io.specs.FileView.{FileView, Stays}
use Rattle.hg_journal.specs.Journal.{reading_of}
use Rattle.hg_journal.specs.Reading as R
use Rattle.hg_journal.specs.Stored.{StoredView}
use Rattle.hg_keep.specs.Keeping.{settled}
use Rattle.hg_keep.specs.Stops.{Begins, Stores, SyncsOnTheWay}
use Rattle.hg_life.specs.Calls.{IsSettled}
use Rattle.hg_life.specs.Members.{MemberList}
use Rattle.hg_life.specs.NodeView.{NodeView, Start}
use Rattle.hg_life.specs.Signing.{Accepts}
use Rattle.hg_play.specs.Outcomes.{kept_outcome}
use Rattle.hg_proof.specs.Least.{Proves}
use Rattle.hg_top.specs.declared.status.JournalFault.TheVariants.{Foreign, Broken}
use Rattle.hg_top.specs.declared.status.Status.{Status}
use Rattle.hg_top.specs.declared.status.Status.TheVariants.{Disk, Journal}
use Rattle.relay.specs.declared.top.Relayed.{Relayed}
use Rattle.relay.specs.Exchanges.{AreExchanges}
use Rattle.relay.specs.Moments.{HasCause, Moment, moment, streams}
use Rattle.relay.specs.declared.gossip.Outside.{Outside}
use Rattle.relay.specs.declared.request.Request.{Request}
use Rattle.hg_io.specs.declared.disk.Disk as disk
use Rattle.hg_io.specs.declared.sink.Sink as sink
use Rattle.hg_io.specs.declared.source.Source as source
use Rattle.relay.specs.Steps.{IsRelayed}

-- The node w came of the one whose journal the file was by all exchanges that are asked for, and has published all that its
-- graph decides; the file is its journal then, and a stop leaves it so.
pub record Relays {K : Type 0} (accepts : K → Accepts) (start : Start K) (asked : Request) (a b : Moment K) (w : NodeView K) : Type 0 where
  pub first : NodeView K
  pub last : NodeView K
  pub begins : Begins accepts start a.file first
  pub relayed : IsRelayed accepts first last
  pub exchanges : AreExchanges accepts asked asked.exchanges (streams a) (streams b) first last
  pub is : w ≡ settled last
  pub settled_is : IsSettled last w
  pub stores : Stores accepts start b.file w

-- so it is of the node that is there
abbrev pub RelaysStored : {K : Type 0} → (K → Accepts) → Start K → Request → Moment K → Moment K → StoredView K → Type 0
RelaysStored {K} accepts start asked a b stored =
    (w : NodeView K) × (stored.node ≡ Some w) × Relays accepts start asked a b w

-- what stops leave meanwhile: where the file is a node's journal, from a first sync on that of one which came of it by gossip;
-- or the disk failed before that, and nothing was written
abbrev pub RelaySyncs : {K T : Type 0} → (K → Accepts) → Start K → FileView → FileView → Result T Status → Type 0
RelaySyncs accepts start old new r =
    ForSome old.reads (SyncsOnTheWay accepts start (IsRelayed accepts) old new) ⊎ (IsErrOf r Disk × Stays old new)

-- a journal of this name that is not opened yet
abbrev pub unopened : {K : Type 0} → List ℕ → StoredView K
unopened name = record { node = None; written = None; pending = 0; name = name; gate = 0 }

-- what is outside, before the journal that is asked for is opened, or without the node
abbrev pub outside : {K A B C : Type 0} → disk.Ghosts A → source.Ghosts B → sink.Ghosts C → Request → Outside A B C → Moment K
outside D S T asked out = moment D S T (unopened asked.disk.now) out

-- so it is between what is outside before and after
abbrev pub RelaysStoredOn : {K A B C : Type 0} → (K → Accepts) → disk.Ghosts A → source.Ghosts B → sink.Ghosts C
    → Start K → Request → Outside A B C → Outside A B C → StoredView K → Type 0
RelaysStoredOn accepts D S T start asked out after stored =
    RelaysStored accepts start asked (outside D S T asked out) (outside D S T asked after) stored

-- why a relay ended early: the file is foreign, or broken at this place, and stays; or gossip ended
pub data IsHalted {K : Type 0} (accepts : K → Accepts) (start : Start K) (a b : Moment K) (status : Status) : Type 0 where
  OfOthers : status ≡ Journal Foreign → Stays a.file b.file
      → ForSome a.file.reads (λ bytes. reading_of accepts start bytes ≡ R.Foreign) → IsHalted accepts start a b status
  Damaged : (at : ℕ) → status ≡ Journal (Broken at) → Stays a.file b.file
      → ForSome a.file.reads (λ bytes. reading_of accepts start bytes ≡ R.Broken at) → IsHalted accepts start a b status
  Ended : HasCause a b status → IsHalted accepts start a b status

-- so it is between what is outside before and after
abbrev pub IsHaltedOn : {K A B C : Type 0} → (K → Accepts) → disk.Ghosts A → source.Ghosts B → sink.Ghosts C
    → Start K → Request → Outside A B C → Outside A B C → Status → Type 0
IsHaltedOn accepts D S T start asked out after status =
    IsHalted accepts start (outside D S T asked out) (outside D S T asked after) status

-- what is told of a node: its block by the marks that it has published, and the certificate of its order, if it is wanted
pub record TellsKept {K : Type 0} (accepts : K → Accepts) (members : MemberList) (wanted : Bool) (v : NodeView K) (told : Relayed) : Type 0 where
  pub outcome : told.outcome ≡ kept_outcome members v
  pub wanted_is : is_some told.proof ≡ wanted
  pub proof : IfSome told.proof (Proves accepts v)
