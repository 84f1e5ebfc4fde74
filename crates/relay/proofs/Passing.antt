-- A relay from one moment to another.
use Rattle.std.proofs.Common.{◌≡◌, ℕ, ◌≤◌, ◌++◌, List, [], take, Option, Some, None, is_some, option_map, refl, sym, ◌∙◌, ap, ap₂, subst, append_assoc, arith}
use Rattle.std.proofs.lemmas.List.{append-nil}
use Rattle.std.specs.Option.{ForSome}
use Rattle.std.specs.Prelude.{Result, Ok, Err, IfOk, IsErrAnd, IsErrOf, OnOk}
use Rattle.hg_io.specs.Bytes.{Appends, IsReadOn, TakesOff}
use Rattle.hg_io.specs.Faults.{Rose}
use Rattle.hg_io.specs.declared.disk.Disk as disk
use Rattle.hg_io.specs.declared.sink.Sink as sink
use Rattle.hg_io.specs.declared.source.Source as source
use Rattle.hg_life.specs.NodeView.{NodeView}
use Rattle.hg_life.specs.declared.gossip.Parcel.{Parcel}
use Rattle.hg_node.specs.Beyond.{beyond_of, tips_of}
use Rattle.hg_life.specs.Signing.{Accepts}
use Rattle.hg_journal.specs.Faults.{IsFaultCounted}
use Rattle.hg_journal.specs.Stored.{StoredView, StoresNode}
use Rattle.hg_journal.specs.declared.errors.StoreError.{StoreError}
use Rattle.hg_journal.specs.declared.errors.StoreError.TheVariants as store_error
use Rattle.hg_keep.specs.Stops.{StopsLeaveOf}
use Rattle.hg_keep.specs.Stores.{open_error_of}
use Rattle.hg_keep.proofs.StopLaws.{some_is}
use Rattle.hg_keep.proofs.WayLaws.{stops_still}
use Rattle.hg_top.specs.Keeps.{open_status}
use Rattle.hg_top.specs.declared.status.Status.{Status}
use Rattle.hg_exchange.specs.Messages.{names_in}
use Rattle.hg_exchange.specs.declared.message.MessageFault.TheVariants as fault
use Rattle.hg_top.specs.declared.status.Refusal.TheVariants.{Fault}
use Rattle.hg_top.specs.declared.status.Status.TheVariants.{Wire}
use Rattle.hg_wire.specs.Ears.{HasHeard, Place, means}
use Rattle.hg_wire.specs.Grammar.{message_bytes}
use Rattle.hg_wire.specs.Outcome.{Faulty, Finished, Outcome, Unfinished}
use Rattle.hg_wire.specs.Reading.{read}
use Rattle.hg_wire.specs.Receiving.{Received, Receives}
use Rattle.hg_wire.specs.declared.message.Message.{Message}
use Rattle.hg_wire.specs.declared.message.Message.TheVariants as message
use Rattle.hg_wire.specs.declared.message.WireFault.{WireFault}
use Rattle.hg_wire.specs.declared.receiving.Receipt.TheVariants as receipt
use Rattle.hg_wire.specs.declared.message.Want.{Want}
use Rattle.hg_wire.specs.declared.message.Want.TheVariants as want
use Rattle.relay.specs.Exchanges.{IsAsked, IsServed}
use Rattle.relay.specs.declared.gossip.Outside.{Outside}
use Rattle.relay.specs.Moments.{Failed, Forgot, CutShort, Gossips, HasCause, Hears, IsOpen, IsPassed, IsSaidOn, IsUnheard, Moment, NoMemory, Says, Unheard, Unkept, Unsaid, Wrong, moment}
use Rattle.relay.specs.Steps.{IsRelayed, IsStep, RelaysOf}
use Rattle.relay.proofs.Leading.{relays_on, relays_still, still, stops_on, stops_step, there_relays}

-- ---- bytes that are read on

pub read_still : (left : Option (List ℕ)) → IsReadOn left left
read_still None = ([], refl)
read_still (Some rest) = ([], refl)

taken_on : (before mid after : Option (List ℕ)) (a b : List ℕ) → TakesOff before mid a → TakesOff mid after b → TakesOff before after (a ++ b)
taken_on before mid None a b first second = first ∙ ap (option_map (λ rest. a ++ rest)) second
taken_on before mid (Some rest) a b first second = first ∙ ap (option_map (λ rest. a ++ rest)) second ∙ ap (λ (t : List ℕ). Some t) (sym (append_assoc a b rest))

pub read_on : (before mid after : Option (List ℕ)) → IsReadOn before mid → IsReadOn mid after → IsReadOn before after
read_on before mid after first second = (first.0 ++ second.0, taken_on before mid after first.0 second.0 first.1 second.1)

-- ---- bytes that are said

pub said_still : (said : Option (List ℕ)) → IsSaidOn said said
said_still None = ([], refl)
said_still (Some text) = ([], ap (λ (t : List ℕ). Some t) (sym (append-nil text)))

put_on : (before mid after : Option (List ℕ)) (a b : List ℕ) → Appends before mid a → Appends mid after b → Appends before after (a ++ b)
put_on None mid after a b first second = second ∙ ap (option_map (λ held. held ++ b)) first
put_on (Some held) mid after a b first second =
    second ∙ ap (option_map (λ held. held ++ b)) first ∙ ap (λ (t : List ℕ). Some t) (append_assoc held a b)

pub said_on : (before mid after : Option (List ℕ)) → IsSaidOn before mid → IsSaidOn mid after → IsSaidOn before after
said_on before mid after first second = (first.0 ++ second.0, put_on before mid after first.0 second.0 first.1 second.1)

-- ---- what is asked and answered

-- HAVE was said, and then ROWS were heard
pub asks_then : {K A B : Type 0} (S : source.Ghosts A) (T : sink.Ghosts B) (node : Option (NodeView K)) (v : NodeView K) (have : List (List ℕ)) (from to : A) (mouth after : B) → node ≡ Some v → have ≡ tips_of v
    → Appends (T.written mouth) (T.written after) (message_bytes (message.Have have)) → (r : Result Message Status) → Hears S want.Rows from to r
    → IfOk r (λ rows. ForSome node (λ w. IsAsked w (record { left = S.left from; said = T.written mouth }) (record { left = S.left to; said = T.written after }) rows))
asks_then S T node v have from to mouth after there tips put (Err status) hears = tt
asks_then {K} S T node v have from to mouth after there tips put (Ok rows) hears = λ w is.
    let same : have ≡ tips_of w = tips ∙ ap (λ (x : NodeView K). tips_of x) (some_is v w (sym there ∙ is)) in
    record { asked = subst (λ (names : List (List ℕ)). Appends (T.written mouth) (T.written after) (message_bytes (message.Have names))) same put; heard = hears.0 }

-- HAVE was heard, and then ROWS were said
pub serves_then : {K A B X : Type 0} (S : source.Ghosts A) (T : sink.Ghosts B) (node : Option (NodeView K)) (v : NodeView K) (have : Message) (names : List (List ℕ)) (rows : Parcel) (from to : A) (mouth after : B) → node ≡ Some v
    → names ≡ names_in have → rows ≡ beyond_of names v → Receives (read want.Have) (S.left from) (S.left to) (Finished have [])
    → (r : Result X Status) → Says T mouth after (message_bytes (message.Rows rows)) r
    → OnOk r (ForSome node (λ w. IsServed w (record { left = S.left from; said = T.written mouth }) (record { left = S.left to; said = T.written after })))
serves_then S T node v have names rows from to mouth after there in_have beyond heard (Err status) says = tt
serves_then {K} S T node v have names rows from to mouth after there in_have beyond heard (Ok x) says = λ w is.
    let same : rows ≡ beyond_of (names_in have) w =
    beyond ∙ ap₂ (λ (ns : List (List ℕ)) (x : NodeView K). beyond_of ns x) in_have (some_is v w (sym there ∙ is)) in
    record {
      have = have;
      heard = heard;
      answered = subst (λ (parcel : Parcel). Appends (T.written mouth) (T.written after) (message_bytes (message.Rows parcel))) same says.0.0;
    }

-- ---- counts that rise

pub rose_on : (a b c : ℕ) → a ≤ b → Rose b c → Rose a c
rose_on a b c less rose = omega (arith, less, rose)

pub unheard_on : (want : Want) (before after : Option (List ℕ)) (l m n : ℕ) (status : Status) → l ≤ m → IsUnheard want before after m n status → IsUnheard want before after l n status
unheard_on want before after l m n status less (Forgot is) = Forgot is
unheard_on want before after l m n status less (Failed is rose) = Failed is (rose_on l m n less rose)
unheard_on want before after l m n status less (CutShort came is) = CutShort came is
unheard_on want before after l m n status less (Wrong wrong came is) = Wrong wrong came is

-- ---- what a new ear made of what was received

same_meaning : (want : Want) (ear : Place) (before after : Option (List ℕ)) (o : Outcome Message) → HasHeard want [] ear → (r : Receives (means ear) before after o) → Receives (read want) before after o
same_meaning want ear before after o new r = record { text = r.text; taken = r.taken; meant = sym (new r.text) ∙ r.meant }

pub heard_none : (want : Want) (ear : Place) (before after : Option (List ℕ)) (m n at : ℕ) → HasHeard want [] ear → Received (means ear) before after (receipt.Ended at) → IsUnheard want before after m n (Wire (Fault (fault.Ended at)))
unfolding same_meaning
heard_none want ear before after m n at new r =
    CutShort (same_meaning want ear before after Unfinished new r.0) (ap (λ (k : ℕ). Wire (Fault (fault.Ended k))) (sym r.1))

pub heard_wrong : (want : Want) (ear : Place) (before after : Option (List ℕ)) (m n : ℕ) (wrong : WireFault) → HasHeard want [] ear → Received (means ear) before after (receipt.Wire wrong) → IsUnheard want before after m n (Wire (Fault (fault.Wire wrong)))
heard_wrong want ear before after m n wrong new r = Wrong wrong (same_meaning want ear before after (Faulty wrong) new r) refl

module _ {K : Type 0} (accepts : K → Accepts) where
  pub passed_still : (a : Moment K) → IsOpen accepts a → IsPassed accepts a a
  passed_still a ready = record {
    name = refl;
    shown = refl;
    stops = stops_still accepts (IsRelayed accepts) (still accepts) a.file a.stored ready.keeps;
    heard = read_still a.left;
    said = said_still a.said;
    faults = omega arith;
    unheard = omega arith;
    unsaid = omega arith;
  }

  pub passed_on : (a b c : Moment K) → RelaysOf accepts a.stored.node b.stored.node → IsPassed accepts a b → IsPassed accepts b c → IsPassed accepts a c
  passed_on a b c relays first second = record {
    name = second.name ∙ first.name;
    shown = second.shown ∙ first.shown;
    stops = stops_on accepts a.stored.node b.stored.node a.file b.file c.file relays first.shown first.stops second.stops;
    heard = read_on a.left b.left c.left first.heard second.heard;
    said = said_on a.said b.said c.said first.said second.said;
    faults = omega (arith, first.faults, second.faults);
    unheard = omega (arith, first.unheard, second.unheard);
    unsaid = omega (arith, first.unsaid, second.unsaid);
  }

  pub cause_on : (a b c : Moment K) (status : Status) → IsPassed accepts a b → HasCause b c status → HasCause a c status
  cause_on a b c status passed (Unkept is rose) = Unkept is (rose_on a.faults b.faults c.faults passed.faults rose)
  cause_on a b c status passed (NoMemory is) = NoMemory is
  cause_on a b c status passed (Unheard want from read none) =
      Unheard want from (read_on a.left b.left from passed.heard read) (unheard_on want from c.left a.unheard b.unheard c.unheard status passed.unheard none)
  cause_on a b c status passed (Unsaid is rose) = Unsaid is (rose_on a.unsaid b.unsaid c.unsaid passed.unsaid rose)

  pub gossips_on : {T : Type 0} (a b c : Moment K) (r : Result T Status) → IsPassed accepts a b → RelaysOf accepts a.stored.node b.stored.node → Gossips accepts b c r → Gossips accepts a c r
  gossips_on a b c (Ok x) passed relays second = (passed_on a b c relays passed second.0, second.1, relays_on accepts a.stored.node b.stored.node c.stored.node relays second.2)
  gossips_on a b c (Err status) passed relays second = (passed_on a b c relays passed second.0, cause_on a b c status passed second.1)

  -- what a `?` hands on
  pub fails : {T : Type 0} (a b : Moment K) (r : Result T Status) (status : Status) → IsErrAnd r (λ s. s ≡ status) → IsPassed accepts a b → HasCause a b status → Gossips accepts a b r
  fails a b (Ok x) status is passed cause = absurd is
  fails a b (Err s) status is passed cause = (passed, subst (λ (x : Status). HasCause a b x) (sym is) cause)

  module _ {A B C : Type 0} (D : disk.Ghosts A) (S : source.Ghosts B) (T : sink.Ghosts C) (stored : StoredView K) (out : Outside A B C) (ready : IsOpen accepts (moment D S T stored out)) where
    -- ---- the streams

    spoken : (said : Option (List ℕ)) (n : ℕ) → IsSaidOn (T.written out.sink) said → T.faults out.sink ≤ n → IsPassed accepts (moment D S T stored out) (record (moment D S T stored out) { said = said; unsaid = n })
    spoken said n put counts =
        let same = passed_still (moment D S T stored out) ready in
        record { name = refl; shown = refl; stops = same.stops; heard = same.heard; said = put; faults = same.faults; unheard = same.unheard; unsaid = counts }

    listened : (left : Option (List ℕ)) (n : ℕ) → IsReadOn (S.left out.source) left → S.faults out.source ≤ n → IsPassed accepts (moment D S T stored out) (record (moment D S T stored out) { left = left; unheard = n })
    listened left n read counts =
        let same = passed_still (moment D S T stored out) ready in
        record { name = refl; shown = refl; stops = same.stops; heard = read; said = same.said; faults = same.faults; unheard = counts; unsaid = same.unsaid }

    pub said : {X : Type 0} (after : C) (text : List ℕ) (r : Result X Status) → Says T out.sink after text r → Gossips accepts (moment D S T stored out) (moment D S T stored (record out { sink = after })) r
    said after text (Ok x) says = (
      spoken (T.written after) (T.faults after) (text, says.0.0) says.0.1,
      record { there = ready.there; started = ready.started; keeps = ready.keeps },
      relays_still accepts stored.node,
    )
    said after text (Err status) says = (spoken (T.written after) (T.faults after) (take says.0.0.0 text, says.0.0.2) says.0.2, Unsaid says.1 says.0.1)

    pub heard : (want : Want) (after : B) (r : Result Message Status) → Hears S want out.source after r → Gossips accepts (moment D S T stored out) (moment D S T stored (record out { source = after })) r
    heard want after (Ok m) hears = (
      listened (S.left after) (S.faults after) hears.1 hears.2,
      record { there = ready.there; started = ready.started; keeps = ready.keeps },
      relays_still accepts stored.node,
    )
    heard want after (Err status) hears = (
      listened (S.left after) (S.faults after) hears.1 hears.2,
      Unheard want (S.left out.source) (read_still (S.left out.source)) hears.0,
    )

    -- ---- the disk

    module _ (kept : StoredView K) (after : A) (name : kept.name ≡ stored.name) (counts : (other : List ℕ) → D.faults out.disk other ≤ D.faults after other) where
      pub worked : (comes : NodeView K → NodeView K → Type 0) → ((v w : NodeView K) → comes v w → IsStep accepts v w) → is_some (D.file after).reads ≡ is_some (D.file out.disk).reads
          → StopsLeaveOf accepts comes stored.node (D.file out.disk) (D.file after) → IsPassed accepts (moment D S T stored out) (moment D S T kept (record out { disk = after }))
      worked comes steps shown stops = record {
        name = name;
        shown = shown;
        stops = stops_step accepts comes steps stored.node (D.file out.disk) (D.file after) stops;
        heard = read_still (S.left out.source);
        said = said_still (T.written out.sink);
        faults = subst (λ (n : List ℕ). D.faults out.disk stored.name ≤ D.faults after n) (sym name) (counts stored.name);
        unheard = omega arith;
        unsaid = omega arith;
      }

      -- why a change was not stored
      pub unkept : {X : Type 0} (r : Result X StoreError) (e : StoreError) → r ≡ Err e → IsFaultCounted r store_error.Disk (D.faults out.disk) (D.faults after) stored.name → (IsErrOf r store_error.Closed → ⊥)
          → HasCause (moment D S T stored out) (moment D S T kept (record out { disk = after })) (open_status (open_error_of e))
      unkept r store_error.Disk is cause never = Unkept refl (subst (λ (n : List ℕ). Rose (D.faults out.disk stored.name) (D.faults after n)) (sym name) (cause is))
      unkept r store_error.Closed is cause never = absurd (never is)
      unkept r store_error.Memory is cause never = NoMemory refl

      -- the node is there, and its journal is stored
      pub opens : RelaysOf accepts stored.node kept.node → D.At after kept.name → StoresNode accepts (D.file after) kept → IsOpen accepts (moment D S T kept (record out { disk = after }))
      opens relays started stores = record { there = there_relays accepts stored.node kept.node ready.there relays; started = started; keeps = stores }
