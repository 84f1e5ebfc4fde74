-- A relay at a moment, and what gossip does between two
use Rattle.std.specs.Prelude.{◌≡◌, ◌≤◌, ℕ, List, [], length, Option, Result, Ok, Err, IfErr, IsSome, is_some}
use Rattle.hg_io.specs.Bytes.{Appends, IsReadOn}
use Rattle.hg_io.specs.Faults.{Rose}
use Rattle.hg_io.specs.FileView.{FileView}
use Rattle.hg_io.specs.Printing.{Prints}
use Rattle.hg_io.specs.declared.disk.Disk as disk
use Rattle.hg_io.specs.declared.sink.Sink as sink
use Rattle.hg_io.specs.declared.source.Source as source
use Rattle.hg_exchange.specs.declared.message.MessageFault.TheVariants as message
use Rattle.hg_journal.specs.Stored.{StoredView, StoresNode}
use Rattle.hg_life.specs.Signing.{Accepts}
use Rattle.hg_top.specs.declared.status.File.TheVariants as file
use Rattle.hg_top.specs.declared.status.Refusal.TheVariants.{Fault}
use Rattle.hg_top.specs.declared.status.Status.{Status}
use Rattle.hg_top.specs.declared.status.Status.TheVariants.{Disk, Memory, ReadFault, Wire, WriteFault}
use Rattle.hg_wire.specs.declared.message.Message.{Message}
use Rattle.hg_wire.specs.declared.message.Want.{Want}
use Rattle.hg_wire.specs.declared.message.WireFault.{WireFault}
use Rattle.hg_wire.specs.Outcome.{Faulty, Finished, Unfinished}
use Rattle.hg_wire.specs.Reading.{read}
use Rattle.hg_wire.specs.Receiving.{Receives}
use Rattle.relay.specs.Exchanges.{Streams}
use Rattle.relay.specs.declared.gossip.Outside.{Outside}
use Rattle.relay.specs.Steps.{RelaysOf, StopsRelayOf}

-- ---- a message that is heard, and one that is said

-- why none was heard, of which these are told before and after: what was left to hear, and how often that failed. The count
-- rose, or so many bytes came and then none, or the bytes that came have this fault; of want of memory nothing is told
pub data IsUnheard (want : Want) (before after : Option (List ℕ)) (m n : ℕ) (status : Status) : Type 0 where
  Forgot : status ≡ Memory → IsUnheard want before after m n status
  Failed : status ≡ ReadFault file.Message → Rose m n → IsUnheard want before after m n status
  CutShort : (came : Receives (read want) before after Unfinished) → status ≡ Wire (Fault (message.Ended (length came.text)))
      → IsUnheard want before after m n status
  Wrong : (fault : WireFault) → Receives (read want) before after (Faulty fault) → status ≡ Wire (Fault (message.Wire fault))
      → IsUnheard want before after m n status

-- what came of hearing a message of this kind
abbrev pub HearsOf : Want → Option (List ℕ) → Option (List ℕ) → ℕ → ℕ → Result Message Status → Type 0
HearsOf want before after m n (Ok said) = Receives (read want) before after (Finished said [])
HearsOf want before after m n (Err status) = IsUnheard want before after m n status

-- so it is of a source S, of which some first bytes were read
abbrev pub Hears : {A : Type 0} → source.Ghosts A → Want → A → A → Result Message Status → Type 0
Hears S want before after r =
    HearsOf want (S.left before) (S.left after) (S.faults before) (S.faults after) r
    × IsReadOn (S.left before) (S.left after) × (S.faults before ≤ S.faults after)

-- what came of saying a text to a sink T: it is written, or a front of it, by this status alone
abbrev pub Says : {A B : Type 0} → sink.Ghosts A → A → A → List ℕ → Result B Status → Type 0
Says T before after text r = Prints T before after text r × IfErr r (λ status. status ≡ WriteFault)

-- ---- moments

-- the node and its journal's file; whether that is started; how often the disk failed at it, and the streams from and to the
-- peer; and what the peer has still to say, and what was said to it, where that is told
pub record Moment (K : Type 0) : Type 1 where
  pub stored : StoredView K
  pub file : FileView
  pub Started : Type 0
  pub faults : ℕ
  pub unheard : ℕ
  pub unsaid : ℕ
  pub left : Option (List ℕ)
  pub said : Option (List ℕ)

-- that of a stored node with these things outside
abbrev pub moment : {K A B C : Type 0} → disk.Ghosts A → source.Ghosts B → sink.Ghosts C → StoredView K → Outside A B C → Moment K
moment D S T stored out = record {
  stored = stored;
  file = D.file out.disk;
  Started = D.At out.disk stored.name;
  faults = D.faults out.disk stored.name;
  unheard = S.faults out.source;
  unsaid = T.faults out.sink;
  left = S.left out.source;
  said = T.written out.sink;
}

-- the streams then
abbrev pub streams : {K : Type 0} → Moment K → Streams
streams a = record { left = a.left; said = a.said }

-- some bytes more were said
abbrev pub IsSaidOn : Option (List ℕ) → Option (List ℕ) → Type 0
IsSaidOn before after = (text : List ℕ) × Appends before after text

-- a node is there, and its journal is the started file, which a stop leaves as it reads
pub record IsOpen {K : Type 0} (accepts : K → Accepts) (a : Moment K) : Type 0 where
  pub there : IsSome a.stored.node
  pub started : a.Started
  pub keeps : StoresNode accepts a.file a.stored

-- from one moment to another some bytes were heard and some said, no count fell, and a stop leaves the journal of a node that came of the
-- first one's by gossip
pub record IsPassed {K : Type 0} (accepts : K → Accepts) (a b : Moment K) : Type 0 where
  pub name : b.stored.name ≡ a.stored.name
  pub shown : is_some b.file.reads ≡ is_some a.file.reads
  pub stops : StopsRelayOf accepts a.stored.node a.file b.file
  pub heard : IsReadOn a.left b.left
  pub said : IsSaidOn a.said b.said
  pub faults : a.faults ≤ b.faults
  pub unheard : a.unheard ≤ b.unheard
  pub unsaid : a.unsaid ≤ b.unsaid

-- why gossip ended early: the disk failed at the journal, or memory ran out, of which nothing more is told; or no message was
-- heard where one was due, or one was not said, since a stream failed or the peer said something else
pub data HasCause {K : Type 0} (a b : Moment K) (status : Status) : Type 0 where
  Unkept : status ≡ Disk → Rose a.faults b.faults → HasCause a b status
  NoMemory : status ≡ Memory → HasCause a b status
  Unheard : (want : Want) (from : Option (List ℕ)) → IsReadOn a.left from → IsUnheard want from b.left a.unheard b.unheard status
      → HasCause a b status
  Unsaid : status ≡ WriteFault → Rose a.unsaid b.unsaid → HasCause a b status

-- what came of gossip: a node that came of the first one's, or a cause
abbrev pub Gossips : {K T : Type 0} → (K → Accepts) → Moment K → Moment K → Result T Status → Type 0
Gossips accepts a b (Ok x) = IsPassed accepts a b × IsOpen accepts b × RelaysOf accepts a.stored.node b.stored.node
Gossips accepts a b (Err status) = IsPassed accepts a b × HasCause a b status

-- so it is of a stored node and of what is outside, each before and after
abbrev pub GossipsOn : {K T A B C : Type 0} → (K → Accepts) → disk.Ghosts A → source.Ghosts B → sink.Ghosts C
    → StoredView K → StoredView K → Outside A B C → Outside A B C → Result T Status → Type 0
GossipsOn accepts D S T stored kept out after r = Gossips accepts (moment D S T stored out) (moment D S T kept after) r
